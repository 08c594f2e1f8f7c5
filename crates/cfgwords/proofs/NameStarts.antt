-- A name's first byte is one that names begin with.
use Rattle.std.proofs.Common.{◌≡◌, ℕ, true, List, [], ◌∷◌, sym, ap, ◌∙◌, true≢false}
use Rattle.std.proofs.lemmas.Bool.{or_left}
use Rattle.constructs.specs.Pieces.{starts}
use Rattle.cfgwords.specs.declared.bytes.ByteClass.TheVariants as bytes
use Rattle.cfgwords.specs.Bytes.{holds}
use Rattle.cfgwords.specs.FileWords.{IsName}

abbrev pub begins_as_name : List ℕ → Type 0
begins_as_name name = starts (holds bytes.NameStart) name ≡ true

-- a name may continue with what it may begin with
goes_on : (text : List ℕ) → starts (holds bytes.NameStart) text ≡ true → starts (holds bytes.NameByte) text ≡ true
goes_on [] h = h
goes_on (b ∷ text) h = or_left _ _ h

pub name_begins : (text word rest : List ℕ) → IsName text word rest → begins_as_name word
name_begins text [] rest is =
    let here : starts (holds bytes.NameStart) rest ≡ true = ap (starts (holds bytes.NameStart)) (sym is.run.whole) ∙ is.begins in
    absurd (true≢false (sym (goes_on rest here) ∙ is.run.longest))
name_begins text (b ∷ word) rest is = ap (starts (holds bytes.NameStart)) (sym is.run.whole) ∙ is.begins
