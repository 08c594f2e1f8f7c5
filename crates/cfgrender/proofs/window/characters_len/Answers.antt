use Rattle.std.proofs.Common.{◌≡◌, ◌≤◌, true, take, length, get_or, ap, sym, subst, arith}
use Rattle.std.proofs.lemmas.List.{take_all}
use Rattle.std.specs.Fmt.{take_chars}
use Rattle.cfglines.specs.Characters.{begins_character}
use Rattle.cfgrender.specs.Render.{characters}
use Rattle.cfgrender.proofs.Cuts.{cut_all, cut_here}
use Rattle.cfgrender.proofs.window.characters_len.Goals as goal

pub returns-then-left-eq0 : goal.returns-then-left-eq0
returns-then-left-eq0 c =
    let bytes = c.as_bytes-bytes.result.now in
    let index = c.loop-index.index in
    let begins : begins_character (get_or bytes index 0) ≡ true = sym c.if-begins_character.ensures in
    let count : characters (take index bytes) ≡ c.args.count = omega (arith, c.loop-index.invariant, c.if-left-eq0.true) in
    sym (subst (λ text. length (take_chars c.args.count text) ≡ index) c.as_bytes-bytes.ensures.value
    (cut_here c.args.count bytes index c.loop-index-test.true begins count))

pub returns : goal.returns
returns c =
    let bytes = c.as_bytes-bytes.result.now in
    let index = c.loop-index.index in
    let whole : characters (take index bytes) ≡ characters bytes = ap characters (take_all index bytes c.loop-index-test.false) in
    let few : characters bytes ≤ c.args.count = omega (arith, c.loop-index.invariant) in
    sym (subst (λ text. length (take_chars c.args.count text) ≡ length bytes) c.as_bytes-bytes.ensures.value
    (cut_all c.args.count bytes few))
