-- Whoever unfolds `machine_computes` unfolds the whole machine, so that examples are proved by computing.
use Rattle.base.specs.Tests.{when◌then◌else◌}
use Rattle.base.specs.Loops.{ascending, descending, some, every, first, passing}
use Rattle.machine.specs.Fields.{signed}
use Rattle.machine.specs.Tables.{empty_document, new_state, empty_session}
use Rattle.machine.specs.Records.{node_fields_right, parent_right, node_fault, anchor_fault, property_fault, simple_rule_fault, composite_rule_fault, rule_fault, bind_fault, port_fault, transition_right, subject_given, link_fault, action_right, target_given, action_fault, record_of}
use Rattle.machine.specs.Load.{and_then, unless, cut_at, cut, checked, records_entered, place_fault, finished, load}
use Rattle.machine.specs.Log.{logged, slice_with, lines_of}
use Rattle.machine.specs.Deciding.{compared, combined, decided, decide, guard_holds}
use Rattle.machine.specs.Events.{transition, counted, clocked, node_changed, node_to, anchor_changed, anchor_to, set_property, next_state, begins_at, ends_at, is_awake, follows, anchor_moved, anchors_moved, line_first, media_to, media_moved, bind_holds, found_bind, choice_made, port_started, context_started, switch_started, started_one, started, leads_to, moved_below, all_moved, child_in, children_state, aborts_at, settled_one, settled, performed, acted}
use Rattle.machine.specs.Tick.{anchors_passed, passed, ticked_one, ticked, keyed}
use Rattle.machine.specs.Owners.{each_up, is_chosen, outside_switches, path_chosen, owner_chosen, any_owner}
use Rattle.machine.specs.Chain.{fires, firing_logged, goes_on, action_run, actions_run, limit_met, fired, link_tried, line_taken, lines_taken, chained}
use Rattle.machine.specs.Broken.{node_obeys, anchor_obeys, property_obeys, rule_unused_zero, rule_obeys, bind_obeys, port_obeys, action_obeys, link_obeys, tables_obey, all, document_ends_zero, state_ends_zero, composite_right, clock_right, node_right, anchor_state_in, anchor_right, states_right, choice_right, choices_right, broken}
use Rattle.machine.specs.Operations.{command_fault, argument_fault, begun, run_admitting, call_refused, ended, call_admitting, read_state, read, session_after, results_of, joined}
use Rattle.machine.specs.Counts.{is_anchor_of, sets_in, times_set, is_count_link, is_count_link_of, is_count_link_in, has_anchor, apart, apart_from_earlier, disjoint, has_one_link, each_has_one_link, sets_once, each_sets_once, unguarded, each_unguarded, sets_no_other, no_other, owner_outside_switches, each_outside_switches, first_failing, conditions, failing, shows_counts, count_link, count_action, count_of, check_counts, with_count, give_count, is_start_of, last_started, last_count}
use Rattle.machine.specs.Text.{text, digits}
use Rattle.machine.specs.PrintedRun.{printed_lines, firings_of, printed_call, is_call, call_of, printed_script, printed_run}

unfoldable pub machine_computes : Unit {0}
unfolding when◌then◌else◌ ascending descending some every first passing signed empty_document new_state empty_session node_fields_right parent_right node_fault anchor_fault property_fault simple_rule_fault composite_rule_fault rule_fault bind_fault port_fault transition_right subject_given link_fault action_right target_given action_fault record_of and_then unless cut_at cut checked records_entered place_fault finished load logged slice_with lines_of compared combined decided decide guard_holds transition counted clocked node_changed node_to anchor_changed anchor_to set_property next_state begins_at ends_at is_awake follows anchor_moved anchors_moved line_first media_to media_moved bind_holds found_bind choice_made port_started context_started switch_started started_one started leads_to moved_below all_moved child_in children_state aborts_at settled_one settled performed acted anchors_passed passed ticked_one ticked keyed each_up is_chosen outside_switches path_chosen owner_chosen any_owner fires firing_logged goes_on action_run actions_run limit_met fired link_tried line_taken lines_taken chained node_obeys anchor_obeys property_obeys rule_unused_zero rule_obeys bind_obeys port_obeys action_obeys link_obeys tables_obey all document_ends_zero state_ends_zero composite_right clock_right node_right anchor_state_in anchor_right states_right choice_right choices_right broken command_fault argument_fault begun run_admitting call_refused ended call_admitting read_state read session_after results_of joined is_anchor_of sets_in times_set is_count_link is_count_link_of is_count_link_in has_anchor apart apart_from_earlier disjoint has_one_link each_has_one_link sets_once each_sets_once unguarded each_unguarded sets_no_other no_other owner_outside_switches each_outside_switches first_failing conditions failing shows_counts count_link count_action count_of check_counts with_count give_count is_start_of last_started last_count text digits printed_lines firings_of printed_call is_call call_of printed_script printed_run
machine_computes = tt
