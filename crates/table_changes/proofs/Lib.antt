mod ChangedLemmas
mod FreedLemmas
