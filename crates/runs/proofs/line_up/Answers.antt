-- As in the program, with one piece.
use native.Mathlib.Omega.{arith}
use mathlib.Core.{Path.refl, Path.ap, Path.◌∙◌, List.[], List.◌∷◌}
use Rattle.rules.specs.Lineup.{lineup}
use Rattle.printout.proofs.Shown.{all_shown, refused-shown}
use Rattle.runs.proofs.Laws.{two-first}
use Rattle.runs.proofs.line_up.Goals as goal

pub returns-then-input-lt2 : goal.returns-then-input-lt2
returns-then-input-lt2 c =
    let r = c.refused.ensures in
    let input = c.args.input.now in record {
      lines_after = refused-shown input refl c.if-input-lt2.true r.wrote;
      counts = r.counts;
      counts_2 = (omega arith, refl);
    }

pub returns : goal.returns
returns c =
    let g = c.gather-tally in
    let m = c.map_of in
    let p = c.print.ensures in
    let input = c.args.input.now in record {
      lines_after = all_shown input m.result g.result _ m.ensures (record { pieces = _ ∷ []; is = g.ensures }) p.wrote p.wrote_2
          ∙ ap lineup (two-first input c.if-input-lt2.false);
      counts = p.counts;
      counts_2 = p.counts_2;
    }

pub gather-tally-requires : goal.gather-tally-requires
gather-tally-requires c = rw c.map_of.ensures c.requires
