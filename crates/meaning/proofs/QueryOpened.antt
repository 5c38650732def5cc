-- One name that opens every definition of queries too.
use Rattle.meaning.proofs.Opened.{opened}
use Rattle.meaning.specs.Query.{in_query, query_vars, width, naming_ty, joining_ty, query_type_of, found_ty}
use Rattle.meaning.specs.Joins.{QueryValue-dec, plainly, lifted, bind_path, QueryMeaning, same_value_lem, query_unifies, restricted_answer, named_answer, join_of, query_answers}
use Rattle.meaning.specs.QueryRecord.{twelve, query_value_words, query_slot_words, query_variable_words, query_record_of, query_answer_record, query_listing, paths_size_lem, query_slot_size, query_variables_size, query_record_size}
use Rattle.meaning.specs.QueryWords.{parts_from, parts_of, lengths_of, bad_layout_lem, is_name_lem, name_used_lem, bad_names_lem, parts_fault, part_query, query_of, is_query_clash, query_untyped, query_fault, bad_restrictor, query_found_words, query_type_words}
use Rattle.meaning.specs.QueryListing.{records_by_lem, query_in, query_fixed_fault, query_full_listing, fixed_by, judge_query, machine_of, page_of, records_on, host_of, records_shown, host_calls_of, until_done_lem, types_or_zeros, check_query, judge_record, fill_page_lem}
use Rattle.meaning.specs.Lines.{called, sitting_run, sitting_after, lines_of, lines}

unfoldable pub query_opened : Unit {0}
unfolding opened in_query query_vars width naming_ty joining_ty query_type_of found_ty QueryValue-dec plainly lifted bind_path QueryMeaning same_value_lem query_unifies restricted_answer named_answer join_of query_answers twelve query_value_words query_slot_words query_variable_words query_record_of query_answer_record query_listing paths_size_lem query_slot_size query_variables_size query_record_size parts_from parts_of lengths_of bad_layout_lem is_name_lem name_used_lem bad_names_lem parts_fault part_query query_of is_query_clash query_untyped query_fault bad_restrictor query_found_words query_type_words records_by_lem query_in query_fixed_fault query_full_listing fixed_by judge_query machine_of page_of records_on host_of records_shown host_calls_of until_done_lem types_or_zeros check_query judge_record fill_page_lem called sitting_run sitting_after lines_of lines
query_opened = tt
