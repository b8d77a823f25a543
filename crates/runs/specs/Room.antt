-- A text at the front of a buffer, where there is room for it.
use Rattle.std.specs.Prelude.{ℕ}
use mathlib.Core.{Bool.cond, List.List}
use lib.{Dec.leb, ListN.length}
use Rattle.rules.specs.Holding.{put}

unfoldable pub size_in : (text : List ℕ) → (room : ℕ) → ℕ
size_in text room = cond (leb (length text) room) (length text) 0

unfoldable pub put_in : (text out : List ℕ) → List ℕ
put_in text out = cond (leb (length text) (length out)) (put out 0 text) out
