-- Files by the bytes that were read of them.
use Rattle.std.proofs.Common.{◌≡◌, Bool, true, false, ℕ, ◌+◌, ◌<◌, ◌≤◌, List, [], ◌++◌, take, drop, length, append_assoc, append-nil, length-append, refl, ap, sym, ◌∙◌, Option, Some, None, IfSome, inl, inr, arith}
use Rattle.std.specs.Prelude.{nat_lt, if◌then◌else◌}
use Rattle.std.proofs.lemmas.Bool.Decides.{eqb_tells}
use Rattle.std.proofs.lemmas.List.{length-take-le, take-append-drop, drop_all}
use Rattle.std.proofs.Math.Seq.{drop-append_seam, take-append_seam}
use Rattle.pr_edge.specs.Files.{Told, OfFile, IsPart}
use Rattle.pr_samples.specs.declared.tails.Tail.{Tail}
use Rattle.pr_samples.specs.declared.feed.Feed.{Feed}
use Rattle.pr_samples.specs.Scan.{Scan}
use Rattle.pr_samples.specs.Feed.{name_of, tail_after, IsTail, IsReadBy, Tells, Begins, IsSeen, ReadsOn}
use Rattle.pr_samples.proofs.Reading.{of_told}

-- ---- facts of told files
both_some : (o : Option (List ℕ)) (P Q R : List ℕ → Type 0) → ((file : List ℕ) → P file → Q file → R file) → IfSome o P → IfSome o Q → IfSome o R
both_some None P Q R step p q = tt
both_some (Some file) P Q R step p q = step file p q

pub both_of : (told : Told) (name : List ℕ) (P Q R : List ℕ → Type 0) → ((file : List ℕ) → P file → Q file → R file) → OfFile told name P → OfFile told name Q → OfFile told name R
both_of None name P Q R step p q = tt
both_of (Some files) name P Q R step p q = both_some (files name) P Q R step p q

-- ---- bytes that go on
-- only a read of nothing ends a file
ended_none : (count limit place : ℕ) → tail_after count limit place ≡ Tail.Ended → count ≡ 0
ended_none count limit place ended = elim (eqb_tells count 0) [
  | inl e ↦ e.1
  | inr e ↦ (let is : (if nat_lt limit place then Tail.Cut else Tail.Open) ≡ Tail.Ended = rw e.0 at ended in absurd (not_ended (nat_lt limit place) is))
]
  where
    not_ended : (b : Bool) → (if b then Tail.Cut else Tail.Open) ≡ Tail.Ended → ⊥
    not_ended true is = cc
    not_ended false is = cc

-- the bytes of a read follow those that were read
pub begins_more : (bytes buffer file : List ℕ) (count limit place : ℕ) → length bytes ≡ place → Begins Tail.Open bytes file → IsPart file place count buffer → 0 < length buffer
    → Begins (tail_after count limit (place + count)) (bytes ++ take count buffer) file
begins_more bytes buffer file count limit place here begins part some =
    let rest : drop place file ≡ begins.rest = ap (drop place) begins.whole ∙ (ap (λ (n : ℕ). drop n (bytes ++ begins.rest)) (sym here) ∙ drop-append_seam bytes begins.rest) in
    let piece : take count buffer ≡ take count begins.rest = part.part ∙ ap (take count) rest in
    record {
      rest = drop count begins.rest;
      whole = begins.whole ∙ (ap (λ (x : List ℕ). bytes ++ x) (sym (take-append-drop count begins.rest)) ∙ (sym (append_assoc bytes (take count begins.rest) (drop count begins.rest)) ∙ ap (λ (x : List ℕ). (bytes ++ x) ++ drop count begins.rest) (sym piece)));
      end = λ ended.
          (let none = ended_none count limit (place + count) ended in
          let long = part.end some none in
          let all : length file ≡ length bytes + length begins.rest = ap length begins.whole ∙ length-append bytes begins.rest in
          drop_all count begins.rest (omega (arith, long, all, here, none)));
    }

-- a file that begins with them had them at their place
pub part_begun : (bytes buffer file : List ℕ) (count limit place : ℕ) → length bytes ≡ place → count ≤ length buffer → Begins (tail_after count limit (place + count)) (bytes ++ take count buffer) file → IsPart file place count buffer
part_begun bytes buffer file count limit place here within begins =
    let piece = take count buffer in
    let size : length piece ≡ count = length-take-le count buffer within in
    let whole : file ≡ bytes ++ (piece ++ begins.rest) = begins.whole ∙ append_assoc bytes piece begins.rest in
    let after : drop place file ≡ piece ++ begins.rest = ap (drop place) whole ∙ (ap (λ (n : ℕ). drop n (bytes ++ (piece ++ begins.rest))) (sym here) ∙ drop-append_seam bytes (piece ++ begins.rest)) in
    record {
      within = omega (arith, size, ap length after, length-append piece begins.rest);
      part = sym (ap (take count) after ∙ (ap (λ (n : ℕ). take n (piece ++ begins.rest)) (sym size) ∙ take-append_seam piece begins.rest));
      end = λ some none.
          (let no_rest = begins.end (ap (λ (n : ℕ). tail_after n limit (place + count)) none) in
          omega (arith, ap length begins.whole, length-append (bytes ++ piece) begins.rest, length-append bytes piece, ap length no_rest, size, none, here));
    }

-- and began with those before
pub begun_before : (tail : Tail) (bytes piece file : List ℕ) → Begins tail (bytes ++ piece) file → Begins Tail.Open bytes file
begun_before tail bytes piece file begins = record {
  rest = piece ++ begins.rest;
  whole = begins.whole ∙ append_assoc bytes piece begins.rest;
  end = λ ended. cc;
}

-- the bytes themselves are such a file
pub begins_itself : (tail : Tail) (bytes : List ℕ) → Begins tail bytes bytes
begins_itself tail bytes = record { rest = []; whole = sym (append-nil bytes); end = λ ended. refl }

-- ---- a feed that reads on
module _ (told : Told) (old : List ℕ) (first f f' : Feed) where
  -- it has read so many bytes more
  pub reads_more : (buffer : List ℕ) (count : ℕ) (Holds : List ℕ → Type 0) → ReadsOn told old first f Holds → f.tail ≡ Tail.Open → OfFile told (name_of f) (λ file. IsPart file f.place count buffer) → count ≤ length buffer → 0 < length buffer
      → name_of f' ≡ name_of f → f'.place ≡ f.place + count → f'.tail ≡ tail_after count f.limit f'.place → ReadsOn told old first f' (λ file. IsPart file f.place count buffer × Holds file)
  reads_more buffer count Holds reads is_open part within some name place tail =
      let tail' : f'.tail ≡ tail_after count f.limit (f.place + count) = tail ∙ ap (tail_after count f.limit) place in
      let before : (file : List ℕ) → Begins f'.tail (reads.bytes ++ take count buffer) file → Begins f.tail reads.bytes file = λ file begins. rw is_open (begun_before f'.tail reads.bytes (take count buffer) file begins) in
      record {
        bytes = reads.bytes ++ take count buffer;
        seen = record {
          count = omega (arith, length-append reads.bytes (take count buffer), length-take-le count buffer within, reads.seen.count, place);
          file = rw (name, tail') (both_of told (name_of f) (Begins Tail.Open reads.bytes) (λ file. IsPart file f.place count buffer) (Begins (tail_after count f.limit (f.place + count)) (reads.bytes ++ take count buffer))
              (λ file begins part. begins_more reads.bytes buffer file count f.limit f.place reads.seen.count begins part some) (rw is_open at reads.seen.file) part);
        };
        began = λ file begins. reads.began file (before file begins);
        holds = λ file begins. (part_begun reads.bytes buffer file count f.limit f.place reads.seen.count within (rw tail' at begins), reads.holds file (before file begins));
      }

-- a feed that has read no more
pub seen_same : (told : Told) (bytes : List ℕ) (f g : Feed) → IsSeen told bytes f → name_of g ≡ name_of f → g.place ≡ f.place → g.tail ≡ f.tail → IsSeen told bytes g
seen_same told bytes f g seen name place tail = record { count = seen.count ∙ sym place; file = rw (name, tail) seen.file }

-- ---- a told file
begins_told : (tail : Tail) (limit place : ℕ) (file : List ℕ) → IsTail tail limit place (length file) → Begins tail (take place file) file
begins_told tail limit place file is = record {
  rest = drop place file;
  whole = sym (take-append-drop place file);
  end = λ ended. drop_all place file (let is : IsTail Tail.Ended limit place (length file) = rw ended at is in omega (arith, is.1));
}

tells_begins : (told : Told) (name file : List ℕ) (P : List ℕ → Type 0) → Tells told name file → P file → OfFile told name P
tells_begins None name file P tells p = tt
tells_begins (Some files) name file P tells p = rw tells p

-- what holds of every file that begins with the bytes that a feed has read holds of the told one
pub holds_told : (told : Told) (name : List ℕ) (f f' : Feed) (s : Scan) (file : List ℕ) (Holds : List ℕ → Type 0) → Tells told name file → name_of f ≡ name → name_of f' ≡ name → IsReadBy f s file
    → ((bytes : List ℕ) → IsSeen told bytes f → ReadsOn told bytes f f' Holds) → Holds file
holds_told told name f f' s file Holds tells named named' reading reads =
    let begun : OfFile told (name_of f) (Begins f.tail (take f.place file)) = rw named (tells_begins told name file (Begins f.tail (take f.place file)) tells (begins_told f.tail f.limit f.place file reading.ends)) in
    let on = reads (take f.place file) (record { count = length-take-le f.place file reading.within; file = begun }) in
    on.holds file (of_told told name file (Begins f'.tail on.bytes) tells (rw named' at on.seen.file))
