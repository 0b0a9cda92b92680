-- What crates above may cite.
pub use Rattle.glb_rules.proofs.Sums.Totals.{sum_zero, sum_same, sum_change, sum_most, sum_plus}
pub use Rattle.glb_rules.proofs.Sums.Totals.{sum_times, term_le}
pub use Rattle.glb_rules.proofs.Sums.Members.{AllApart, distinct_append, distinct_join, in_append}
pub use Rattle.glb_rules.proofs.Sums.Members.{in_left, in_right, in_join, join_in, in_map, map_in}
pub use Rattle.glb_laws.proofs.Joins.{join_same}
pub use Rattle.glb_rules.proofs.EdgeLemmas.Marks.{apart, is_there, unmarked_put, eq_self, eq_other, same_kind_true}
pub use Rattle.glb_rules.proofs.EdgeLemmas.Marks.{same_kind_false, set_mark_at, set_mark_else}
pub use Rattle.glb_rules.proofs.EdgeLemmas.Made.{number_in, in_number, line_in, in_line, apart_of, names_named}
pub use Rattle.glb_rules.proofs.EdgeLemmas.Names.{at_name, steal_name, steals_of, lines_of, names, NamesOnce, NamesEdges}
pub use Rattle.glb_rules.proofs.EdgeLemmas.Named.{named, named_else, names_apart}
pub use Rattle.glb_rules.proofs.EdgeLemmas.Numbers.{join_at, degree_is, steal_at, line_at}
pub use Rattle.glb_rules.proofs.Invariant.Frames.{kind_cases, name_cases, across_change}
pub use Rattle.glb_rules.proofs.Invariant.Start.{start_lawful}
pub use Rattle.glb_rules.proofs.Invariant.Steps.{run_stop, run_keeps, step_keeps}
pub use Rattle.glb_rules.proofs.Invariant.Take.{taker_waits, took_not_zero}
pub use Rattle.glb_rules.proofs.Invariant.Replaced.{replaced, becomes}
pub use Rattle.glb_rules.proofs.Finish.Quiet.{finished_quiet}
pub use Rattle.glb_rules.proofs.Finish.Histories.{run_then, live_small, loots_most}
pub use Rattle.glb_rules.proofs.Finish.NoneStuck.{stuck_finished}
pub use Rattle.glb_rules.proofs.Finish.Balances.{balances}
pub use Rattle.glb_rules.proofs.Bound.Rises.{no_credit_le}
pub use Rattle.glb_rules.proofs.Bound.Runs.{run_lawful, run_lawful_from, run_bounded, done_count}
pub use Rattle.glb_rules.proofs.Bound.Items.{step_counts, step_few}
pub use Rattle.glb_rules.proofs.Decisions.Draws.{drawn_there}
pub use Rattle.glb_rules.proofs.Decisions.Sees.{Sees}
pub use Rattle.glb_rules.proofs.Decisions.Sights.{in_each, to_each, sees_own, sees}
pub use Rattle.glb_rules.proofs.Decisions.Choices.{first_is, first_alike, looks_at_first}
pub use Rattle.glb_rules.proofs.Decisions.Choices.{minted_gives, working_decides, mints_looked}
pub use Rattle.glb_rules.proofs.Decisions.Bystanders.{other_below, state_stays, sight_stays}
pub use Rattle.glb_rules.proofs.Decisions.Events.{first_none, own_decided, decided}
pub use Rattle.glb_rules.proofs.Decisions.Actors.{decided_actor, decided_goes, decided_mint}
pub use Rattle.glb_rules.proofs.Decisions.Led.{led_step}
pub use Rattle.glb_rules.proofs.Decisions.Runs.{schedule_decides, decided_run}
pub use Rattle.glb_rules.proofs.Decisions.Runs.{decided_run_halts_not, decided_run_led}
pub use Rattle.glb_rules.proofs.Decisions.Runs.{decided_step_led, start_led, some_turn, minted_sees}
