use Rattle.std.proofs.Common.{◌+◌, ◌≤◌, take}
use Rattle.indexmap.specs.IndexMap.{index_map_len, spare}
use Rattle.pd_clock.specs.Index.{AreNoted, LeadHome, place_of}
use Rattle.pd_clock.proofs.compaction.note_all.Given as goal

abbrev pub invariant-loop-place : goal.invariant-loop-place
invariant-loop-place l = record {
  noted : AreNoted (place_of l.places) 0 (take l.place l.slots);
  home : LeadHome (place_of l.places) l.slots;
  len : index_map_len l.places ≤ l.place;
  capacity : spare l.initial.places ≤ index_map_len l.places + spare l.places;
}
