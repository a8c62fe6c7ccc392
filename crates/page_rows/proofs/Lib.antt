mod OrderLemmas
mod BoundLemmas
mod PickLemmas
mod GenidLemmas
mod PlanLemmas
mod TreeLemmas
mod ReadLemmas
mod StandingLemmas
