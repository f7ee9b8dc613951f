mod LayoutLemmas
mod NodeLaws
mod ReadLaws
