-- `host::hypuz_inv_deep` meets its contract: it hands over what the entry answers. Assumes nothing.
use Rattle.hypuz_notation.proofs.Handing.{hands}
use Rattle.hypuz_notation.proofs.host.hypuz_inv_deep.Goals as goal

pub returns : goal.returns
returns c = hands _ c.inv_deep.result _ _ c.code.ensures c.inv_deep.ensures
