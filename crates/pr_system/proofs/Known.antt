-- What is known of the bytes of a reader or a writer after one call and then another.
use Rattle.std.proofs.Common.{ℕ, List, [], Option, Some, None, Result, Ok, Err, ◌++◌, ap, sym, ◌∙◌, append-nil}
use Rattle.std.specs.Io.KnownBytes.{Keeps, Appends, Consumes, ReadConsumes}

pub keeps_on : (a b c : Option (List ℕ)) → Keeps a b → Keeps b c → Keeps a c
keeps_on None b c h g = tt
keeps_on (Some x) None c h g = absurd h
keeps_on (Some x) (Some y) None h g = absurd g
keeps_on (Some x) (Some y) (Some z) h g = g ∙ h

pub appends_on : (a b c : Option (List ℕ)) (bytes : List ℕ) → Keeps a b → Appends b c bytes → Appends a c bytes
appends_on None b c bytes h g = tt
appends_on (Some x) None c bytes h g = absurd h
appends_on (Some x) (Some y) None bytes h g = absurd g
appends_on (Some x) (Some y) (Some z) bytes h g = g ∙ ap (λ u. u ++ bytes) h

-- no bytes are none
pub appends_nothing : (a b : Option (List ℕ)) → Appends a b [] → Keeps a b
appends_nothing None b g = tt
appends_nothing (Some x) None g = absurd g
appends_nothing (Some x) (Some y) g = g ∙ append-nil x

consumes_on : (a b c : Option (List ℕ)) (bytes : List ℕ) → Keeps a b → Consumes b c bytes → Consumes a c bytes
consumes_on None b c bytes h g = tt
consumes_on (Some x) None c bytes h g = absurd h
consumes_on (Some x) (Some y) None bytes h g = absurd g
consumes_on (Some x) (Some y) (Some z) bytes h g = sym h ∙ g

pub reads_on : {E : Type 0} (a b c : Option (List ℕ)) (r : Result ℕ E) (buf : List ℕ) → Keeps a b → ReadConsumes b c r buf → ReadConsumes a c r buf
reads_on a b c (Ok n) buf h g = (consumes_on a b c _ h g.0, g.1)
reads_on a b c (Err e) buf h g = keeps_on a b c h g
