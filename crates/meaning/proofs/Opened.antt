-- One name that opens every definition: `unfolding opened` under a signature lets the proof below compute with all of them.
use native.Mathlib.Decide.{ℕ_discrete}
use Rattle.meaning.specs.Basics.{same, max, each, only, keep, below, up_from, eight, at_most, lowest, first_of, rowless, at_row}
use Rattle.meaning.specs.Graph.{row_goes, goes, labelled, src, tgt, len, ◌·◌, linked}
use Rattle.meaning.specs.Pattern.{named, in_condition, in_var, name_list, condition_vars, vars, edgeless, nesting}
use Rattle.meaning.specs.Typing.{opt, single, fits, join_ty, union_ty, concatenation_ty, repetition_ty, named_ty, conditioned_ty, type_of}
use Rattle.meaning.specs.Assignment.{Value-dec, count, bind, ◌∪◌, fill, path_of_lem, value_of, entries, collect, property_of, equality, holds}
use Rattle.meaning.specs.Truth.{decided, negation, conjunction, disjunction, is_true}
use Rattle.meaning.specs.Meaning.{Meaning, step_first, splits, agree, unifies, cut_first, cuts, chosen, node_at, edge_at, assignments}
use Rattle.meaning.specs.Answer.{restrictor_of, on_edge_lem, on_node_lem, fresh, longer, paths_of, longest, paths, base_answers, beaten, shortest_of_lem, answers}
use Rattle.meaning.specs.Record.{places, path_words_lem, element_word, value_words_lem, entries_words, slot_words_lem, variable_words, record_of_lem, path_size_lem, group_size_lem, value_size_lem, slot_size_lem, variables_size_lem, record_size_lem, records_in}
use Rattle.meaning.specs.Listing.{before, insert_by, insert, sort, answer_record, listing}
use Rattle.meaning.specs.Image.{number, rises, pair_less_lem, some_row_lem, offset, section_length, node_count, edge_count, label_count, property_count, node_cell_lem, edge_cell_lem, label_cell_lem, property_cell_lem, good_directory_lem, too_many, bad_node_lem, bad_edge_lem, bad_label_lem, bad_property_lem, row_fault, image_fault, element_number, value_in, edge_row, graph_of}
use Rattle.meaning.specs.Table.{rows_of, no_row, if_zero, form, pattern_form, condition_form, names_of, times, as_pattern, as_condition, unless, make, repeats, on_pattern, two_deep, is_clash_lem, any_of, untyped, is_variable_lem, form_at, lower, item_at, pattern_row_lem, condition_row, fine, fault12, fault13, fault14, fault15, fault16, row_cause, table_fault, table_pattern, bad_length, pattern_fault, pattern_of, ty_words, found_words, padded, type_words}
use Rattle.meaning.specs.FullListing.{fixed_fault, unless_refused, full_listing, is_one_of, judge}
use Rattle.meaning.specs.Report.{over, digits, report_bytes, undigits, reported, wide_enough_lem, cause_bytes, bit, cleared}
use Rattle.meaning.specs.Sitting.{total_of, holds_total, raised, carries_past}
use Rattle.meaning.specs.Page.{fit, join, is_empty, printing, filled, unless_overrun_lem, unless_fault, answerable, outcome, left, after}
use Rattle.meaning.specs.Machine.{printed_count, plain_turn, plain_run, last_or, is_done, and_then}
use Rattle.meaning.specs.Operations.{read_image, judge_unless}

unfoldable pub opened : Unit {0}
unfolding ℕ_discrete same max each only keep below up_from eight at_most lowest first_of rowless at_row row_goes goes labelled src tgt len ◌·◌ linked named in_condition in_var name_list condition_vars vars edgeless nesting opt single fits join_ty union_ty concatenation_ty repetition_ty named_ty conditioned_ty type_of Value-dec count bind ◌∪◌ fill path_of_lem value_of entries collect property_of decided negation conjunction disjunction is_true equality holds Meaning step_first splits agree unifies cut_first cuts chosen node_at edge_at assignments restrictor_of on_edge_lem on_node_lem fresh longer paths_of longest paths base_answers beaten shortest_of_lem answers places path_words_lem element_word value_words_lem entries_words slot_words_lem variable_words record_of_lem path_size_lem group_size_lem value_size_lem slot_size_lem variables_size_lem record_size_lem records_in before insert_by insert sort answer_record listing number rises pair_less_lem some_row_lem offset section_length node_count edge_count label_count property_count node_cell_lem edge_cell_lem label_cell_lem property_cell_lem good_directory_lem too_many bad_node_lem bad_edge_lem bad_label_lem bad_property_lem row_fault image_fault element_number value_in edge_row graph_of rows_of no_row if_zero form pattern_form condition_form names_of times as_pattern as_condition unless make repeats on_pattern two_deep is_clash_lem any_of untyped is_variable_lem form_at lower item_at pattern_row_lem condition_row fine fault12 fault13 fault14 fault15 fault16 row_cause table_fault table_pattern bad_length pattern_fault pattern_of ty_words found_words padded type_words fixed_fault unless_refused full_listing is_one_of judge over digits report_bytes undigits reported wide_enough_lem cause_bytes bit cleared total_of holds_total raised carries_past fit join is_empty printing filled unless_overrun_lem unless_fault answerable outcome left after printed_count plain_turn plain_run last_or is_done and_then read_image judge_unless
opened = tt
