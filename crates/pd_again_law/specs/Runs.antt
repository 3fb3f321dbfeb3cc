-- How a patch runs, is commanded and edited, and opens: passed on to the crates above.
pub use Rattle.pd_steady.specs.PassedOn.{IsSent, Base, Choice, Wanted, Asks, Refuses, Lacks, Makes, first_choice, later, loads_of_choice}
pub use Rattle.pd_steady.specs.PassedOn.{Firing, Left, going_on, begun, delivered, Beginning, whole, left_after, after_deliveries, stage_by, loaded_by, edit_loaded_by, asked_by, edits_of_by, with_kept}
pub use Rattle.pd_steady.specs.PassedOn.{Item, AreLawful, GoByFolder, Sinks, sinks, Took, Leads, Stage, Taken, Passage, choices_of, with_names, followed_by, still, joined, with_ahead, saying, after}
pub use Rattle.pd_steady.specs.PassedOn.{block_units, most_fired, first_clock, if_below, next_clock, taken_off, with_taken, with_fired, fires, fires_or_not, clocks_fire, block_runs, time_is, comes_to, advanced, finished}
pub use Rattle.pd_steady.specs.PassedOn.{Files, Grows, first_stage, opened, Reads, growth_of, file_read, Stops, IsUngathered, IsUngrown, IsRefused, IsUnread, IsFileRefused, OpensFile, Opens, GathersAll, BadCause, OpenRefusal}
unfoldable pub use Rattle.pd_steady.specs.PassedOn.{event, edit_taken, edits_taken_by, edit_event, fires_below, block_sounds, blocks_run, commanded}
pub use Rattle.pd_steady.specs.Freely.{free_ways}
pub use Rattle.pd_steady.specs.Runs.{own_ways, opened_by, Ways, finished_by, advanced_by}
unfoldable pub use Rattle.pd_steady.specs.Runs.{commanded_by}
pub use Rattle.pd_steady.specs.Steady.{IsSteady, IsCommand}
pub use Rattle.pd_steady.specs.Steps.{steps_by, Step, Does, Learns, Comes, IsStep, step_by, AreSteps}
pub use Rattle.pd_steady.specs.PassedOn.opening
pub use Rattle.pd_steady.specs.PassedOn.cause
