-- Fewer than two bytes are refused; else the line-up is that of the map number and the pieces behind it.
use native.Mathlib.Omega.{arith}
use mathlib.Core.Path.{refl}
use borrow.Author.Rules.{rules}
use Rattle.capture.proofs.Laws.{some-pieces}
use Rattle.rules.specs.Lineup.{text, english, lineup}
use Rattle.printout.proofs.Shown.{all_shown, refused-shown, refused-alone, with_rest}
use Rattle.lineup.proofs.line_up.Goals as goal

pub returns-then-head-lt2 : goal.returns-then-head-lt2
unfolding english text
returns-then-head-lt2 g c =
    let r = c.refused.ensures in
    let head = c.args.head.now in record {
      shown = refused-alone lineup _ _ head (refused-shown head refl c.if-head-lt2.true r.wrote);
      counts = r.counts;
      counts_2 = (omega arith, refl);
    }

pub gather-gathered-requires : goal.gather-gathered-requires
unfolding english text
gather-gathered-requires g c = record {
  buffer_len = search rules;
  language_value = refl;
  store_value = rw c.map_of.ensures c.requires.store_value;
}

pub returns : goal.returns
unfolding english text
returns g c =
    let p = c.print.ensures in
    let head = c.args.head.now in
    let got = some-pieces c.gather-gathered.ensures.1 in
    let all = all_shown head c.map_of.result c.gather-gathered.result.tally _ c.map_of.ensures got p.wrote p.wrote_2 in record {
      shown = with_rest lineup _ _ head _ (omega arith) c.requires.head_len_bound all;
      counts = p.counts;
      counts_2 = p.counts_2;
    }
