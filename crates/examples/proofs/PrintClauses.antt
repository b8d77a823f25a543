-- Document 01, "The C side and the printed line-up": every clause of the text and of the cutting of an input, whole or in pieces, computed; and of
-- request 2026-01 the lines of `labels`. (Whole outputs: Printed.antt, PrintedLabels.antt.)
use Prim.Native.Nat.{ℕ, ◌*◌, ◌%◌}
use mathlib.Core.Path.{◌≡◌, refl}
use mathlib.Core.Bool.{cond}
use mathlib.Core.List.{List, [], ◌∷◌, ◌++◌, map, flatten}
use lib.ListN.{replicate}
use lib.Dec.{eqb}
use Rattle.rules.specs.Holding.{none_live, none_gathered, fresh}
use Rattle.rules.specs.Lineup.{text, english, decimal, field, line, sections_of, fresh_box, refusals, version, version_lines, channel_line, channel_lines}
use Rattle.rules.specs.Lineup.{heading, lineup}
use Rattle.rules.specs.LabelLines.{hex_digit, hexadecimal, label_line, label_heading}
use Rattle.rules.specs.Feeding.{is_whole, wholes, unfinished, last_of, Intake, begin, feed, feed_all, finish}
use Rattle.rules.specs.declared.Mode.{Mode}
use Rattle.rules.specs.declared.State.{State}
use Rattle.rules.specs.declared.Answer.TheVariants as Answer
use Rattle.rules.specs.declared.Tuned.{Tuned}
use Rattle.rules.proofs.Hex.{hex}
use Rattle.rules.proofs.Computed.{computed}
use Rattle.examples.proofs.Sweeps.{as_number, sweep, swept}
use Rattle.examples.proofs.HoldingClauses.{live, gathered, holding}
use Rattle.rules.specs.Refusals.{OrRefused, wrong, right}

-- version 1 of the CDS and version 0 of the MMS live, version 3 of the VCM gathered, nothing of the DCM; version 4 of the names live
abbrev pub some_live : State
some_live =
    record {
      tables =
          record {
            cds = holding (live 1 1 3) none_gathered 0;
            mms = holding (live 1 0 0) (gathered 1 7 1 1) 0;
            vcm = holding none_live (gathered 1 3 1 1) 1;
            dcm = holding none_live none_gathered 1;
            ntt = holding (live 1 4 2) none_gathered 0;
          };
      settings = record { map = 258; language = english };
    }

abbrev pub some_mode : Mode
some_mode = record { system = 2; inner = 15; split = 1; format = 8; symbols = 5056941 }

-- two sections of four and three bytes, and the first four bytes of one of eight; and the same in pieces
abbrev pub input : List ℕ
input = hex "C2 00 01 AA C4 00 00 C2 00 05 11"

abbrev pub pieces : List (List ℕ)
pieces = hex "C2 00" ∷ hex "01 AA C4" ∷ [] ∷ hex "00 00 C2" ∷ hex "00 05 11" ∷ []

abbrev pub taken : Intake
taken = feed_all (begin 258) pieces

-- every odd channel is an application with twice its number
abbrev pub odd_ones : ℕ → OrRefused Tuned
odd_ones n = cond (eqb (n % 2) 1) (right (Tuned.Application 0 0 (n * 2))) (wrong 17)

pub record PrintClauses : Type 0 where
  -- ---- text and numbers
  pub texts : text "aZ=\n" ≡ 97 ∷ 90 ∷ 61 ∷ 10 ∷ []
  pub decimals : map decimal (0 ∷ 9 ∷ 10 ∷ 105 ∷ 1002000 ∷ []) ≡ text "0" ∷ text "9" ∷ text "10" ∷ text "105" ∷ text "1002000" ∷ []
  pub most :
      map decimal (18446744073709551615 ∷ 99999999999999999999 ∷ 100000000000000000000 ∷ 7234567890123456789012 ∷ [])
      ≡ text "18446744073709551615" ∷ text "99999999999999999999" ∷ text "100000000000000000000" ∷ text "7234567890123456789012" ∷ []
  pub fields : field "key=" 12 ≡ text "key=12"
  pub lines : line "key=" (text "value") ≡ text "key=value\n"
  -- ---- the input: each section takes 3 + L bytes; an unfinished last one is offered as it is
  pub sections : sections_of input ≡ hex "C2 00 01 AA" ∷ hex "C4 00 00" ∷ hex "C2 00 05 11" ∷ []
  pub sections_none : sections_of [] ≡ []
  pub starts : fresh_box 258 ≡ record { state = fresh 258 english; store = replicate 40960 0 }
  -- in English, the three bytes of "eng" as they are
  pub in_english : english ≡ hex "65 6E 67"
  -- answers with a number are counted as refused, and no other
  pub counted :
      map (λ a. refusals (a ∷ wrong 1 ∷ [])) (wrong 12 ∷ right Answer.OtherMap ∷ right Answer.Repeat ∷ right (Answer.Stored 2) ∷ right (Answer.Live 3) ∷ [])
      ≡ 2 ∷ 1 ∷ 1 ∷ 1 ∷ 1 ∷ []
  -- ---- the lines
  pub versions : version_lines some_live ≡ text "cds=1\nmms=0\nvcm=none\ndcm=none\nntt=4\n"
  pub versions_other :
      version_lines (record {
        tables =
            record {
              cds = some_live.tables.dcm;
              mms = some_live.tables.vcm;
              vcm = some_live.tables.mms;
              dcm = some_live.tables.cds;
              ntt = some_live.tables.dcm;
            };
        settings = some_live.settings;
      })
      ≡ text "cds=none\nmms=none\nvcm=0\ndcm=1\nntt=none\n"
  pub no-version : map version (live 0 0 0 ∷ live 1 5 0 ∷ live 2 5 0 ∷ []) ≡ text "none" ∷ text "5" ∷ text "none" ∷ []
  pub headed : heading some_live 11 22 33 ≡ text "lineup=1\nmap=258\nsections=11\nrefused=22\n" ++ version_lines some_live ++ text "channels=33\n"
  pub digital :
      channel_line 5 (right (Tuned.Digital 1 0 63000 3 some_mode))
      ≡ text "channel=5 kind=digital hidden=1 path=0 khz=63000 program=3 system=2 inner=15 split=1 format=8 symbols=5056941\n" ∷ []
  pub analogue : channel_line 5 (right (Tuned.Analogue 0 1 63000 4 1)) ≡ text "channel=5 kind=analogue hidden=0 path=1 khz=63000 standard=4 scrambled=1\n" ∷ []
  pub application : channel_line 5 (right (Tuned.Application 1 0 7)) ≡ text "channel=5 kind=application hidden=1 path=0 application=7\n" ∷ []
  pub no_line : channel_line 5 (wrong 17) ≡ []
  -- ascending, and none behind the last
  pub ascending : channel_lines (λ n. channel_line n (odd_ones n)) 3 6 ≡ text "channel=7 kind=application hidden=0 path=0 application=14\n" ∷ []
  pub ascending-all :
      channel_lines (λ n. channel_line n (odd_ones n)) 3 7
      ≡ text "channel=7 kind=application hidden=0 path=0 application=14\n" ∷ text "channel=9 kind=application hidden=0 path=0 application=18\n" ∷ []
  -- fewer than two bytes
  pub refused : map lineup ([] ∷ hex "00" ∷ []) ≡ text "lineup=refused\n" ∷ text "lineup=refused\n" ∷ []
  -- ---- request 2026-01, `labels`: two digits a byte, capital letters, a zero byte too; nothing of no bytes
  pub hex-digits : sweep 16 hex_digit ≡ text "0123456789ABCDEF"
  pub hexadecimals :
      map hexadecimal ([] ∷ hex "00" ∷ hex "0F F0 09 90 0A A0" ∷ hex "FF 12 00" ∷ []) ≡ [] ∷ text "00" ∷ text "0FF009900AA0" ∷ text "FF1200" ∷ []
  -- nothing stands behind `label=` without a name
  pub label-lines :
      label_line 3 (hex "00 01 4C") ∷ label_line 4095 (hex "9F") ∷ label_line 0 [] ∷ []
      ≡ text "channel=3 label=00014C\n" ∷ text "channel=4095 label=9F\n" ∷ text "channel=0 label=\n" ∷ []
  -- the longest name, whole
  pub label-longest : label_line 7 (replicate 255 0xAB) ≡ text "channel=7 label=" ++ flatten (replicate 255 (text "AB")) ++ text "\n"
  -- labels=1, map, ntt, channels: the live version of the names, and of no other table
  pub label-headed : label_heading some_live 33 ≡ text "labels=1\nmap=258\nntt=4\nchannels=33\n"
  pub label-headed-none : label_heading (fresh 7 english) 0 ≡ text "labels=1\nmap=7\nntt=none\nchannels=0\n"
  -- ---- in pieces: what is whole is offered, what is not is kept
  pub whole :
      map (λ bs. as_number (is_whole bs)) ([] ∷ hex "C2 00" ∷ hex "C2 00 00" ∷ hex "C2 00 01" ∷ hex "C2 00 01 AA" ∷ hex "C2 00 01 AA BB" ∷ [])
      ≡ 0 ∷ 0 ∷ 1 ∷ 0 ∷ 1 ∷ 1 ∷ []
  pub whole-ones : wholes input ≡ hex "C2 00 01 AA" ∷ hex "C4 00 00" ∷ []
  pub not-whole : unfinished input ≡ hex "C2 00 05 11"
  pub last_one : map last_of ([] ∷ hex "C2" ∷ []) ≡ [] ∷ (hex "C2" ∷ []) ∷ []
  pub begun : begin 258 ≡ record { box = fresh_box 258; sections = 0; refused = 0; kept = [] }
  pub fed : taken ≡ record { box = fresh_box 258; sections = 2; refused = 2; kept = hex "C2 00 05 11" }
  pub fed-on : feed taken (hex "22 33 44 55 C4") ≡ record { box = fresh_box 258; sections = 3; refused = 3; kept = hex "C4" }
  -- the counts go on from what they were: of five sections one was refused, and now one more is
  pub fed-counts :
      feed (record { box = fresh_box 258; sections = 5; refused = 1; kept = hex "C4" }) (hex "00 00")
      ≡ record { box = fresh_box 258; sections = 6; refused = 2; kept = [] }
  pub finished : finish taken ≡ record { box = fresh_box 258; sections = 3; refused = 3; kept = [] }
  pub finished-whole : finish (begin 258) ≡ begin 258

pub print-clauses : PrintClauses
unfolding computed swept
print-clauses =
    record {
      texts = refl;
      decimals = refl;
      most = refl;
      fields = refl;
      lines = refl;
      sections = refl;
      sections_none = refl;
      starts = refl;
      in_english = refl;
      counted = refl;
      versions = refl;
      versions_other = refl;
      no-version = refl;
      headed = refl;
      digital = refl;
      analogue = refl;
      application = refl;
      no_line = refl;
      ascending = refl;
      ascending-all = refl;
      refused = refl;
      hex-digits = refl;
      hexadecimals = refl;
      label-lines = refl;
      label-longest = refl;
      label-headed = refl;
      label-headed-none = refl;
      whole = refl;
      whole-ones = refl;
      not-whole = refl;
      last_one = refl;
      begun = refl;
      fed = refl;
      fed-on = refl;
      fed-counts = refl;
      finished = refl;
      finished-whole = refl;
    }
