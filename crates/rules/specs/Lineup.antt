-- Document 01, "The C side and the printed line-up": what the program `lineup` prints, byte for byte, of the bytes that it
-- reads.
use Rattle.std.specs.Prelude.{ℕ, zero, suc, ◌+◌, ◌/◌, ◌%◌, ◌^◌, cond, length, take, replicate, ltb, eqb}
use Prim.Native.Char.{code}
use Prim.Native.String.{String, [] as []ₜ, ◌∷◌ as ◌∷ₜ◌}
use mathlib.Core.List.{List, [], ◌∷◌, ◌++◌, flatten}
use Rattle.rules.specs.Bytes.{word, from}
use Rattle.rules.specs.Section.{length_of}
use Rattle.rules.specs.Holding.{limit_of, store_size, fresh, Box, run, answers}
use Rattle.rules.specs.Tuning.{tune}
use Rattle.rules.specs.declared.Mode.{Mode}
use Rattle.rules.specs.declared.LiveVersion.{LiveVersion}
use Rattle.rules.specs.declared.State.{State}
use Rattle.rules.specs.declared.Answer.{Answer}
use Rattle.rules.specs.declared.Tuned.{Tuned}
use Rattle.rules.specs.Refusals.{OrRefused, wrong, right}

-- ---- text and decimal numbers, as bytes

unfoldable pub text : String → List ℕ
text []ₜ = []
text (c ∷ₜ s) = code c ∷ text s

-- n in decimal with no zero in front, in at most `most` + 1 digits
unfoldable pub digits : (most n : ℕ) → List ℕ
digits zero n = (48 + n % 10) ∷ []
digits (suc most) n = cond (ltb n 10) ((48 + n) ∷ []) (digits most (n / 10) ++ ((48 + n % 10) ∷ []))

-- "all numbers decimal", however large: 20 digits, and one more for each 10^20 in it, are never too few
unfoldable pub decimal : ℕ → List ℕ
decimal n = digits (19 + n / 10 ^ 20) n

-- a key with its number, and a line of a key and its value
unfoldable pub field : String → ℕ → List ℕ
field key n = text key ++ decimal n

unfoldable pub line : String → List ℕ → List ℕ
line key value = text key ++ value ++ text "\n"

-- ---- the input: "two bytes of map number, then sections back to back, each taking 3 + L bytes whatever L says; an
-- unfinished last one is offered as it is"

-- the sections, at most so many; of a last one that is cut `take` takes what is there
unfoldable pub cut : (most : ℕ) → List ℕ → List (List ℕ)
cut zero bs = []
cut (suc most) bs =
    cond (eqb (length bs) 0) [] (take (3 + length_of bs) bs ∷ cut most (from bs (3 + length_of bs)))

-- there are never more sections than bytes, so the bound is never met
unfoldable pub sections_of : List ℕ → List (List ℕ)
sections_of bs = cut (length bs) bs

-- request 2026-01: "lineup starts with "eng""
unfoldable pub english : List ℕ
english = text "eng"

-- a fresh box, with a store of zero bytes
unfoldable pub fresh_box : (map : ℕ) → Box
fresh_box map =
    record { state = fresh map english; store = replicate (store_size (limit_of (fresh map english))) 0 }

-- ---- the lines

-- how many were refused by a number
unfoldable pub refusals : List (OrRefused Answer) → ℕ
refusals [] = 0
refusals (wrong n ∷ more) = 1 + refusals more
refusals (right a ∷ more) = refusals more

-- live version or none
unfoldable pub version : LiveVersion → List ℕ
version l = cond (eqb l.present 1) (decimal l.version) (text "none")

-- live version or none, of each table
unfoldable pub version_lines : State → List ℕ
version_lines s =
    line "cds=" (version s.tables.cds.live)
    ++ line "mms=" (version s.tables.mms.live)
    ++ line "vcm=" (version s.tables.vcm.live)
    ++ line "dcm=" (version s.tables.dcm.live)
    ++ line "ntt=" (version s.tables.ntt.live)

-- what the lines of the three kinds have in front, and what a digital one has behind
unfoldable pub front : (number : ℕ) → (kind : String) → (hidden path : ℕ) → List ℕ
front number kind hidden path =
    field "channel=" number ++ text kind ++ field " hidden=" hidden ++ field " path=" path

unfoldable pub mode_fields : Mode → List ℕ
mode_fields m =
    field " system=" m.system
    ++ field " inner=" m.inner
    ++ field " split=" m.split
    ++ field " format=" m.format
    ++ field " symbols=" m.symbols

-- the line of a channel that tunes or is an application; no line where it is refused
unfoldable pub channel_line : (number : ℕ) → OrRefused Tuned → List (List ℕ)
channel_line number (wrong n) = []
channel_line number (right (Tuned.Digital hidden path khz program mode)) =
    (front number " kind=digital" hidden path
    ++ field " khz=" khz
    ++ field " program=" program
    ++ mode_fields mode
    ++ text "\n") ∷ []
channel_line number (right (Tuned.Analogue hidden path khz standard scrambled)) =
    (front number " kind=analogue" hidden path
    ++ field " khz=" khz
    ++ field " standard=" standard
    ++ field " scrambled=" scrambled
    ++ text "\n") ∷ []
channel_line number (right (Tuned.Application hidden path application)) =
    (front number " kind=application" hidden path ++ field " application=" application ++ text "\n") ∷ []

-- the lines of n channels from a number on, ascending
unfoldable pub channel_lines : (line_of : ℕ → List (List ℕ)) → (n number : ℕ) → List (List ℕ)
channel_lines line_of zero number = []
channel_lines line_of (suc n) number = line_of number ++ channel_lines line_of n (number + 1)

-- "It prints key=value lines in this order: lineup=1, map, sections (offered), refused, cds, mms, vcm, dcm" and, by request
-- 2026-01, "ntt after dcm", "(live version or none), channels (those that tune or are applications),
unfoldable pub heading : State → (sections refused channels : ℕ) → List ℕ
heading s sections refused channels =
    text "lineup=1\n"
    ++ line "map=" (decimal s.settings.map)
    ++ line "sections=" (decimal sections)
    ++ line "refused=" (decimal refused)
    ++ version_lines s
    ++ line "channels=" (decimal channels)

-- then one line each, ascending."
unfoldable pub lines_of : Box → List (List ℕ)
lines_of b = channel_lines (λ number. channel_line number (tune b.state b.store number)) 4096 0

unfoldable pub printed : Box → (sections refused : ℕ) → List ℕ
printed b sections refused =
    heading b.state sections refused (length (lines_of b)) ++ flatten (lines_of b)

unfoldable pub printed_of : Box → (sections : List (List ℕ)) → List ℕ
printed_of b sections = printed (run b sections) (length sections) (refusals (answers b sections))

-- "Fewer than two bytes print only `lineup=refused`."
unfoldable pub lineup : (input : List ℕ) → List ℕ
lineup input =
    cond (ltb (length input) 2) (text "lineup=refused\n")
    (printed_of (fresh_box (word 0 input)) (sections_of (from input 2)))
