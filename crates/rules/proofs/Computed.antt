-- Every definition of the rules, opened: what is proved by `refl` under `unfolding computed` is computed from them, and
-- from nothing else.
use mathlib.Core.List.{flatten}
use lib.Count.{ones, ones_in}
use Rattle.rules.specs.Bytes.{unless, and_then, giving, byte, from}
use Rattle.rules.specs.Crc.{shift, bits_of, shift_all, crc_from}
use Rattle.rules.specs.Descriptors.{descriptor, passed, counted, filling, closing, bodies}
use Rattle.rules.specs.Layout.{taken, numbered, entry, after, records}
use Rattle.rules.specs.Text.{is_page, is_wide, is_single, is_long, block_size, good_mode, blocks, good_text}
use Rattle.rules.specs.Tables.{carriers_zeros, carriers_of, in_khz, carrier_khz, carriers_fair, cds, mode_zeros, mode_of, among, systems, inner_codings}
use Rattle.rules.specs.Tables.{assigned, mode_fair, mms, vcm_head_zeros, vcm_head_of, vcm_head, transport_of, channel_zeros, signal_of, channel_of}
use Rattle.rules.specs.Tables.{standard_fair, channel_fair, vcm, dcm_head_zeros, dcm_head_of, dcm_head, range_of, range_fair, dcm}
use Rattle.rules.specs.Tables.{ntt_head, name_zeros, name_of, name_fair, ntt}
use Rattle.rules.specs.Form.{protocol_zeros, no_language, counted_header, no_head, map_header, name_header}
use Rattle.rules.specs.Section.{length_of, has_number, is_number, medium_at, named, given, header_of, header_by, header, in_front, structure, revision}
use Rattle.rules.specs.Section.{content_of, content, fitting, without_crc, whole, read, read_section, check_of, check, size_of, closing_at}
use Rattle.rules.specs.Section.{head_of, read_as, first_of, asked_of, ask, part_of, part_at}
use Rattle.rules.specs.Gathering as Gathering
use Rattle.rules.specs.Holding.{limit_of, with, read_for, put, none_live, none_gathered, fresh_holding, fresh, holds, all_of, is_live, is_gathered}
use Rattle.rules.specs.Holding.{live_formed, held_formed, gathered_formed, same_version, holding_formed, well_formed, has_other_last, is_repeat, held_with}
use Rattle.rules.specs.Holding.{gone_live, gathering, live_or_stored, step_of, same_language, not_ours, other_map}
use Rattle.rules.specs.Search.{first, any, otherwise, sections}
use Rattle.rules.specs.Tuning.{table_live, all_live, live_count, live_reading, is_section, reads_as, every, place_reads, table_reads, all_read}
use Rattle.rules.specs.Tuning.{records_in, live_section, live_records, plant, covers, is_carrier, is_mode, is_channel, is_range, defined_by, defined}
use Rattle.rules.specs.Tuning.{needs, found, hidden, tune_signal, in_reach, tune_khz, tune_carrier, tune_channel, look_up, tune}
use Rattle.rules.specs.Standing.{of_got, standing, standing_of, standing_in, live_standing}
use Rattle.rules.specs.Label.{is_name, live_names, label_of, channel_label, names_read, wants, labelled, label_bytes}
use Rattle.rules.specs.Labelling.{told_label}
use Rattle.rules.specs.Said.{refused_by, says, head_values, read_said, asked_said, answer_said, mode_values, tuned_said, section_said, ask_said}
use Rattle.rules.specs.Said.{offer_said, tune_said, label_said, ask_label_said}
use Rattle.rules.specs.Lineup.{text, english, digits, decimal, field, line, cut, sections_of, fresh_box, refusals, version, version_lines, front}
use Rattle.rules.specs.Lineup.{mode_fields, channel_line, channel_lines, heading, lines_of, printed, printed_of, lineup}
use Rattle.rules.specs.LabelLines.{hex_digit, hexadecimal, label_line, label_line_of, label_lines_of, label_heading, printed_labels, labels}
use Rattle.rules.specs.Feeding.{is_whole, whole_in, wholes, unfinished, last_of, begin, taking, feed, feed_all, finish, shown}
use Rattle.rules.specs.Meaning.{meant}
use Rattle.rules.specs.Parts.{encoded, piece_bytes, area, said_from, bytes_of, said}
use Rattle.rules.proofs.Hex.{hex}

unfoldable pub computed : Unit {0}
unfolding unless and_then giving byte from shift bits_of shift_all crc_from descriptor passed counted filling closing bodies taken numbered entry after
    records carriers_zeros carriers_of in_khz carrier_khz carriers_fair cds mode_zeros mode_of among systems inner_codings assigned mode_fair mms vcm_head_zeros
    vcm_head_of vcm_head transport_of channel_zeros signal_of channel_of standard_fair channel_fair vcm dcm_head_zeros dcm_head_of dcm_head range_of range_fair dcm
    protocol_zeros is_page is_wide is_single is_long block_size good_mode blocks good_text ntt_head name_zeros name_of name_fair ntt no_language counted_header no_head
    map_header name_header length_of has_number is_number medium_at named given header_of header_by header in_front structure revision content_of content fitting
    without_crc whole read read_section check_of check size_of closing_at head_of read_as first_of asked_of ask part_of part_at meant limit_of with read_for
    Gathering.place_of Gathering.store_size Gathering.section_at put Gathering.live_at Gathering.gathered_at none_live none_gathered fresh_holding fresh holds
    all_of is_live is_gathered live_formed held_formed gathered_formed same_version holding_formed well_formed has_other_last is_repeat held_with gone_live gathering
    live_or_stored step_of same_language not_ours other_map Gathering.stepped Gathering.offered_as Gathering.offered Gathering.touched_by Gathering.touches
    Gathering.put_as Gathering.store_after Gathering.answer_to Gathering.box_after Gathering.run Gathering.answers first any otherwise sections table_live
    all_live live_count live_reading is_section reads_as every place_reads table_reads all_read records_in live_section live_records plant covers is_carrier is_mode
    is_channel is_range defined_by defined needs found hidden tune_signal in_reach tune_khz tune_carrier tune_channel look_up tune of_got standing standing_of
    standing_in live_standing is_name live_names label_of channel_label names_read wants labelled label_bytes told_label refused_by says head_values read_said
    asked_said answer_said mode_values tuned_said section_said ask_said offer_said tune_said label_said ask_label_said text english digits decimal field line cut
    sections_of fresh_box refusals version version_lines front mode_fields channel_line channel_lines heading lines_of printed printed_of lineup hex_digit
    hexadecimal label_line label_line_of label_lines_of label_heading printed_labels labels is_whole whole_in wholes unfinished last_of begin taking feed feed_all
    finish shown encoded piece_bytes area said_from bytes_of said flatten ones ones_in hex
computed = tt
