-- A store of one byte is a text of one byte.
use native.Mathlib.Omega.{arith}
use mathlib.Core.Path.{refl}
use Rattle.text.proofs.Written.{put_one}
use Rattle.text.proofs.put_byte.Goals as goal

pub returns : goal.returns
returns c = record { room = omega (arith, c.requires); behind = refl; holds = put_one _ _ _ c.requires }
