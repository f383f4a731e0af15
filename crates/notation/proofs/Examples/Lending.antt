-- Lent buffers by themselves: two that are written together or not at all, and answers that hold a place in every case.
use Prim.Native.Nat.{◌+◌, ◌*◌}
use mathlib.Core.Path.{◌≡◌, refl}
use mathlib.Core.List.{[], ◌∷◌}
use Rattle.notation.specs.Refusals.{Outcome, refusal, result}
use Rattle.notation.specs.Lending.{Both, lend_both, kept_both, beside, lend_at}
use Rattle.notation.specs.Host.{coded_place}

-- two bytes for the first buffer and one for the second, answering 7
abbrev rule : Outcome Both
rule = result (record { answered = 7; first = 1 ∷ 2 ∷ []; second = 3 ∷ [] })

-- exact, with bytes to spare in either, either too short, and refused by the rule itself
both : (lend_both rule (9 ∷ 9 ∷ []) (8 ∷ []) ≡ record { answer = result 7; first = 1 ∷ 2 ∷ []; second = 3 ∷ [] })
    × (lend_both rule (9 ∷ 9 ∷ 9 ∷ []) (8 ∷ 8 ∷ []) ≡ record { answer = result 7; first = 1 ∷ 2 ∷ 9 ∷ []; second = 3 ∷ 8 ∷ [] })
    × (lend_both rule (9 ∷ []) (8 ∷ []) ≡ kept_both 5 (9 ∷ []) (8 ∷ []))
    × (lend_both rule (9 ∷ 9 ∷ []) [] ≡ kept_both 5 (9 ∷ 9 ∷ []) [])
    × (lend_both (refusal 9) (9 ∷ 9 ∷ []) (8 ∷ []) ≡ kept_both 9 (9 ∷ 9 ∷ []) (8 ∷ []))
both = (refl, refl, refl, refl, refl)

-- from place 4 to place 5 with two bytes written; too little room or a refusal stays at place 4
moves : (lend_at 4 (result (5, 1 ∷ 2 ∷ [])) (9 ∷ 9 ∷ 9 ∷ []) ≡ record { answer = record { number = 0; place = 5 }; buffer = 1 ∷ 2 ∷ 9 ∷ [] })
    × (lend_at 4 (result (5, 1 ∷ 2 ∷ [])) (9 ∷ []) ≡ record { answer = record { number = 5; place = 4 }; buffer = 9 ∷ [] })
    × (lend_at 4 (refusal 21) (9 ∷ 9 ∷ []) ≡ record { answer = record { number = 21; place = 4 }; buffer = 9 ∷ 9 ∷ [] })
moves = (refl, refl, refl)

-- to C the place stands beside the refusal too, modulo 2^56
to_c : (coded_place (beside 4 (result 5)) ≡ 5)
    × (coded_place (beside 4 (refusal 21)) ≡ 21 * 72057594037927936 + 4)
    × (coded_place (beside 72057594037927939 (refusal 10)) ≡ 10 * 72057594037927936 + 3)
to_c = (refl, refl, refl)
