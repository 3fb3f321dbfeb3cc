-- Edits, stages, commands and openings, and what they say of a patch: passed on to the crates above.
pub use Rattle.pd_guards.specs.Order.{IsKind}
pub use Rattle.pd_guards.specs.Worlds.{AreKept, IsInOrder, IsSent}
pub use Rattle.pd_sized.specs.Kinds.{kinds_of, blank_of, KeepsOfKind}
pub use Rattle.pd_stage.specs.PassedOn.{NewBox, AddsBox, HasCome, IsPartBoxPut, IsSub, OldBox, going, DeletesBox, TakesPort, ShiftsBox, MovesBox, MovedBox, RetypedBox, RetypesBox, Becomes, cell_become}
pub use Rattle.pd_stage.specs.Choices.{Base, Wanted, Edits, Asks, Saves, Undoes, Redoes, Choice, Refuses, Lacks, Makes, Made, first_choice, later, loads_of_choice, base_of}
pub use Rattle.pd_stage.specs.Lawful.{StandsAt, IsTakenOut, known_at, IsMade, IsShort, IsRewiringLawful, IsPutIn, IsUnputForRoom, IsPutLawful, IsLeftInForRoom, IsTakingLawful, IsMovedTo, IsLeftAtForRoom, IsMovingLawful, IsRetypedTo, IsUnretypedForRoom, IsRetypingLawful, IsEditLawful, IsSaved, MayCome, AreLawful, GoByFolder}
pub use Rattle.pd_stage.specs.Stages.{Stage, Taken, Passage, with_names, with_ahead, still, followed_by, choices_of, joined, saying, after}
pub use Rattle.pd_stage.specs.Events.{Beginning, Message, Firing, Loading, Left, whole, left_after, going_on, deliveries, after_deliveries, delivered, with_kept, loaded_by, edit_loaded_by, asked_by, edits_of_by, with_net, stage_by, begun}
unfoldable pub use Rattle.pd_stage.specs.Events.{edit_taken, edits_taken_by, event, edit_event}
pub use Rattle.pd_stage.specs.Times.{block_units, most_fired, first_clock, next_clock, taken_off, with_taken, with_fired, fires, fires_or_not, clocks_fire, block_net, sound_at, block_runs, time_is, comes_to, advanced, finished, if_below}
unfoldable pub use Rattle.pd_stage.specs.Times.{fires_below, block_sounds, blocks_run}
pub use Rattle.pd_stage.specs.Items.{Item}
pub use Rattle.pd_stage.specs.Leads.{Sinks, sinks, Took, Leads}
pub use Rattle.pd_engine.specs.Opening.{Grows, first_stage, growth_of, opened, Files, Reads, file_read, Stops, IsUngathered, IsUngrown, IsRefused, IsUnread, IsFileRefused, OpensFile, Opens, GathersAll}
pub use Rattle.pd_engine.specs.Messages.{message_in}
unfoldable pub use Rattle.pd_engine.specs.Commands.{commanded}
pub use Rattle.pd_engine.specs.declared.refusals.BadCause.{BadCause}
pub use Rattle.pd_engine.specs.declared.refusals.OpenRefusal.{OpenRefusal}
pub use Rattle.pd_engine.specs.declared.refusals.OpenRefusal.TheVariants as opening
pub use Rattle.pd_engine.specs.declared.refusals.BadCause.TheVariants as cause
