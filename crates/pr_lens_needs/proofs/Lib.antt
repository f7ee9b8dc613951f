mod NeedLemmas
