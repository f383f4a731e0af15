-- `host::hypuz_simplify` meets its contract: it hands over what the entry answers. Assumes nothing.
use Rattle.hypuz_notation.proofs.Handing.{hands}
use Rattle.hypuz_notation.proofs.host.hypuz_simplify.Goals as goal

pub returns : goal.returns
returns c = hands _ c.simplify.result _ _ c.code.ensures c.simplify.ensures
