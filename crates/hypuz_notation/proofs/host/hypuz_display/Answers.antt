-- `host::hypuz_display` meets its contract: it hands over what the entry answers. Assumes nothing.
use Rattle.hypuz_notation.proofs.Handing.{hands}
use Rattle.hypuz_notation.proofs.host.hypuz_display.Goals as goal

pub returns : goal.returns
returns c = hands _ c.display.result _ _ c.code.ensures c.display.ensures
