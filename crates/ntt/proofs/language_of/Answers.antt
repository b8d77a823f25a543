-- The bytes behind the protocol version.
use Rattle.ntt.proofs.Head.{language-is}
use Rattle.ntt.proofs.language_of.Goals as goal

pub returns : goal.returns
returns c = language-is _ _ c.byte.ensures c.byte-2.ensures c.byte-3.ensures
