mod EndLemmas
mod NoneRan
mod WellLemmas
mod RefusalOnce
mod RefusedEnds
mod LawLemmas
