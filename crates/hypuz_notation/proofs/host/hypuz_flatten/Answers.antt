-- `host::hypuz_flatten` meets its contract: it hands over what the entry answers. Assumes nothing.
use Rattle.hypuz_notation.proofs.Handing.{hands}
use Rattle.hypuz_notation.proofs.host.hypuz_flatten.Goals as goal

pub returns : goal.returns
returns c = hands _ c.flatten.result _ _ c.code.ensures c.flatten.ensures
