-- What a reader of all words has noted.
use Rattle.std.proofs.Common.{◌≡◌, ◌-◌, [], ◌++◌, length, ap, ap₂, ◌∙◌, arith}
use Rattle.constructs.specs.Construct.{computes}
use Rattle.constructs.proofs.Steps.{noted_after}
use Rattle.bison_reader.specs.declared.reader.Reader.{Reader}
use Rattle.bison_reader.specs.FileGrammar.{file, items_of, numbers}
use Rattle.bison_reader.specs.Inner.Builds.{Grows, items_read, rest_of}

pub all_read : (old new : Reader) → (old.next ≡ 0) × (items_read old ≡ []) → Grows old new (computes (file old.sorts.now) (rest_of old)).items
    → items_read new ≡ items_of old.sorts.now
all_read old new (first, none) grown =
    let words = old.sorts.now in
    grown ∙ noted_after (items_read old) (computes (file words) (rest_of old)).items
    ∙ ap (λ before. before ++ (computes (file words) (rest_of old)).items) none
    ∙ ap₂ (λ next count. (computes (file words) (numbers next count)).items) first (all first)
  where
    all : old.next ≡ 0 → length old.sorts.now - old.next ≡ length old.sorts.now
    all e = omega (arith, e)
