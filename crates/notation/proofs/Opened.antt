-- What a closed example computes with, gathered once: `unfolding opened` opens every definition of specs/ but the copies of a
-- repeated list, of which there may be billions.
use Rattle.notation.specs.Basics.{one_of, same_list, every}
use Rattle.notation.specs.Chars.{classify, white_space}
use Rattle.notation.specs.Utf8.{char_width, code_point, utf8_from, run_from}
use Rattle.notation.specs.Numbers.{positional, digits, digit_run, decimal, show_from}
use Rattle.notation.specs.Layers.{set_ranges, insert, sort, join_from, join, contains, others_from}
use Rattle.notation.specs.Tree.{append, map_node, map_body, map_nodes}
use Rattle.notation.specs.Counts.{count_node, count_body, count}
use Rattle.notation.specs.Packed.{lay_out, cut, head_record, node_size, body_size, size, pack_node, pack_body, pack, head_of, unpack_from}
use Rattle.notation.specs.Grammar.{
  just,
  word,
  uint,
  more_of,
  constraint_set,
  layer_set_elements,
  layer_prefix_contents,
  rotation_node,
  move_node,
  group_node,
  binary_group_node,
  megaminx_scramble_move,
  sq1_move,
  node_by,
  node_list_by,
  notation_by,
}
use Rattle.notation.specs.Meaning.{constraints_in, layer_set_in, step_of}
use Rattle.notation.specs.WellFormed.{leaf_ok, node_ok, body_ok, tree_ok, node_depth, body_depth, depth, well_formed}
use Rattle.notation.specs.Clauses.{fields_of, lists_end, groups_deep, steps_in, counts_ok, clause_by_clause}
use Rattle.notation.specs.Invert.{inv, inv_deep_node, inv_deep_body, inv_deep}
use Rattle.notation.specs.Print.{put_more, put_step, put_node, put_body, put_nodes, put_others}
use Rattle.notation.specs.Unroll.{flatten_node, flatten_body, flatten_nodes}
use Rattle.notation.specs.Entries.{nesting_ok, tree_in, checked, steps, records, layer_ranges, range_bytes, family_span}
use Rattle.notation.specs.Primes.{straight_from, given_from, leaf_given}
use Rattle.notation.specs.Lister.{step_lines, lister}
use Rattle.notation.specs.Marked.{step_count, listed, ranges}

unfoldable pub opened : Type 1
unfolding one_of same_list every classify white_space char_width code_point utf8_from run_from positional digits digit_run decimal show_from set_ranges insert sort join_from join contains others_from append map_node map_body map_nodes count_node count_body count lay_out cut head_record node_size body_size size pack_node pack_body pack head_of unpack_from just word uint more_of constraint_set layer_set_elements layer_prefix_contents rotation_node move_node group_node binary_group_node megaminx_scramble_move sq1_move node_by node_list_by notation_by constraints_in layer_set_in step_of leaf_ok node_ok body_ok tree_ok node_depth body_depth depth well_formed fields_of lists_end groups_deep steps_in counts_ok clause_by_clause inv inv_deep_node inv_deep_body inv_deep put_more put_step put_node put_body put_nodes put_others flatten_node flatten_body flatten_nodes nesting_ok tree_in checked steps records layer_ranges range_bytes family_span straight_from given_from leaf_given step_lines lister step_count listed ranges
opened = Type 0
