-- `lineup` prints the paper's digital line of the grown plant too: condition 3 applied to it. Nothing is computed again but where its sections end.
use mathlib.Core.Path.{◌≡◌, refl, sym, ◌∙◌}
use mathlib.Core.List.{◌++◌, flatten}
use Rattle.rules.specs.Bytes.{byte, from}
use Rattle.rules.specs.Section.{length_of}
use Rattle.rules.specs.Lineup.{text, cut, sections_of, fresh_box, printed_of, lineup}
use Rattle.rules.proofs.Hex.{hex}
use Rattle.rules.proofs.SameRuns.{grown-printed}
use Rattle.examples.proofs.Plants.{example_plant}
use Rattle.examples.proofs.Printed.{printed}
use Rattle.examples.proofs.Growths.{grown_plant, plant-grows}

example-input : lineup (hex "00 00" ++ flatten example_plant) ≡ printed_of (fresh_box 0) example_plant
unfolding lineup sections_of cut length_of byte from flatten hex
example-input = refl

grown-input : lineup (hex "00 00" ++ flatten grown_plant) ≡ printed_of (fresh_box 0) grown_plant
unfolding lineup sections_of cut length_of byte from flatten hex
grown-input = refl

pub grown-digital :
    lineup (hex "00 00" ++ flatten grown_plant)
    ≡ text "lineup=1\nmap=0\nsections=4\nrefused=0\ncds=5\nmms=5\nvcm=5\ndcm=5\nntt=none\nchannels=1\n"
    ++ text "channel=3 kind=digital hidden=0 path=0 khz=63000 program=3 system=2 inner=15 split=0 format=8 symbols=5056941\n"
grown-digital = grown-input ∙ grown-printed (fresh_box 0) plant-grows ∙ sym example-input ∙ printed.digital
