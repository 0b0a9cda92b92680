-- What crates above may cite.
pub use Rattle.glb_core.proofs.Lifelines.Setups.{proper, connected, line_is}
pub use Rattle.glb_core.proofs.Lifelines.Seen.{map_each, first_made}
pub use Rattle.glb_core.proofs.Tables.EdgeRows.{get_or-any}
pub use Rattle.glb_core.proofs.Tables.PlaceRows.{size_of, capped_more, capped_same, counted_ask, counted_line_ask}
pub use Rattle.glb_core.proofs.Tables.PlaceRows.{counted_denied, counted_shrug, counted_sleep}
pub use Rattle.glb_core.proofs.Tables.Views.{places_are}
pub use Rattle.glb_core.proofs.Events.Items.{capped_wide_more, counted_items, counted_given, counted_got}
pub use Rattle.glb_core.proofs.Events.Failed.{memory_failed, failed_stop}
pub use Rattle.glb_core.proofs.Sights.Told.{ins_told, outs_told, waited_told}
pub use Rattle.glb_core.proofs.Sights.Alike.{sights_agree, states_agree}
pub use Rattle.glb_core.proofs.Ends.Counts.{counts_small}
pub use Rattle.glb_core.proofs.Ends.Balanced.{finished_balanced, told_at}
pub use Rattle.glb_core.proofs.Ends.Reported.{joined_same, places_report}
