-- `host::hypuz_seek_step` meets its contract: it hands over what the entry answers. Assumes nothing.
use Rattle.hypuz_notation.proofs.Handing.{hands}
use Rattle.hypuz_notation.proofs.host.hypuz_seek_step.Goals as goal

pub returns : goal.returns
returns c = hands _ c.seek_step.result _ _ c.code.ensures c.seek_step.ensures
