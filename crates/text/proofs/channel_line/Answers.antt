-- The line is the one of the answer's kind; a channel that is refused has none.
use native.Mathlib.Omega.{arith}
use mathlib.Core.{Path.refl, Path.ap, Path.◌∙◌, List.flatten}
use Rattle.std.specs.Prelude.{Ok}
use Rattle.rules.specs.Refusals.{by_number}
use Rattle.rules.specs.Lineup.{text, field, front, channel_line}
use Rattle.text.specs.Written.{field_of, front_of, khz_front}
use Rattle.text.proofs.Lines.{nothing, line-of}
use Rattle.text.proofs.channel_line.Goals as goal

pub returns-in_default : goal.returns-in_default
unfolding channel_line flatten
returns-in_default c = (omega arith, rw c.in_default.is (nothing _ _ (omega (arith, c.requires))))

pub returns-in-Digital : goal.returns-in-Digital
unfolding channel_line front field khz_front front_of field_of text
returns-in-Digital c = line-of _ (ap by_number (c.in-Ok.is ∙ ap Ok c.in-Digital.is)) refl c.put_digital.ensures

pub returns-in-Analogue : goal.returns-in-Analogue
unfolding channel_line front field khz_front front_of field_of text
returns-in-Analogue c = line-of _ (ap by_number (c.in-Ok.is ∙ ap Ok c.in-Analogue.is)) refl c.put_analogue.ensures

pub returns-in-Application : goal.returns-in-Application
unfolding channel_line front field khz_front front_of field_of text
returns-in-Application c = line-of _ (ap by_number (c.in-Ok.is ∙ ap Ok c.in-Application.is)) refl c.put_application.ensures
