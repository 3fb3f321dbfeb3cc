mod ClockLemmas
