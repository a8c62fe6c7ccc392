mod RightLemmas
mod ReadLaws
