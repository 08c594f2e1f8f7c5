-- Each construct's program gives exactly what the construct means, and leaves no more of the text than its type allows.
use Rattle.std.proofs.Common.{[], None, refl, arith}
use Rattle.constructs.specs.Graph.{IsGraph}
use Rattle.constructs.specs.Read as read
use Rattle.constructs.specs.Leaves.{Gives, Leaves, OneOrEnd}
use Rattle.constructs.specs.Construct.{Construct, gives, ends, emits, fails, word_or, silently, then, recovers, case_of, choice, here, many, Says, computes}
use Rattle.constructs.proofs.Lengths.{Shortens, weight, shortened, stays_shortens, fails_shortens, word_or_shortens, shortened_one, follow_shortens, recover_shortens, case_shortens, choose_shortens, many_shortens, either_shortened, both_first, both_second}
use Rattle.constructs.proofs.Graphs.{exactly_graph, then_graph, recovers_graph, case_graph, choice_graph, here_graph, word_or_graph, many_graph}
use Rattle.constructs.proofs.SilentLemmas.{silently_graph, silently_shortens}

-- what it leaves
pub leaves : {I F : Type 0} {l : Leaves} {G : Gives} (c : Construct I F l G) → Shortens (shortened G l) (computes c)
leaves (gives a) = stays_shortens (λ _. 0) a refl (λ text. refl)
leaves (ends {A = A}) = stays_shortens (weight (OneOrEnd A)) None refl (λ text. refl)
leaves (emits item) = stays_shortens (λ _. 0) tt refl (λ text. refl)
leaves {G = G} (fails fault) = fails_shortens (weight G) fault
leaves {G = G} (word_or {l = l} {m = m} kind value c d) = word_or_shortens kind.shortens value (shortened_one l m G) (λ a. leaves (c a)) (leaves d)
leaves (silently kind) = silently_shortens kind.no_longer
leaves {G = G} (then {l = l} {m = m} c d) = follow_shortens (shortened G _) (either_shortened l m G) (leaves c) (λ a. leaves (d a))
leaves {G = G} (recovers {l = l} {m = m} c d) =
    recover_shortens (shortened G _) (λ a. omega (arith, both_first [] l m G a)) (both_second [] l m G) (leaves c) (λ fault. leaves (d fault))
leaves {G = G} (case_of {l = l} {m = m} word c d) = case_shortens (shortened G _) word (both_first word l m G) (both_second word l m G) (leaves c) (leaves d)
leaves {G = G} (choice {l = l} {m = m} test c d) =
    choose_shortens (shortened G _) test (λ a. omega (arith, both_first [] l m G a)) (both_second [] l m G) (leaves c) (leaves d)
leaves (here c) = record { least = λ text. (leaves (c text)).least text }
leaves (many c) = many_shortens (leaves c)

-- what it gives
pub agree : {I F : Type 0} {l : Leaves} {G : Gives} (c : Construct I F l G) → IsGraph (Says c) (computes c)
agree (gives a) = exactly_graph (read.gives a)
agree ends = exactly_graph (read.gives None)
agree (emits item) = exactly_graph (read.emits item)
agree (fails fault) = exactly_graph (λ text. read.fails (fault text))
agree (word_or kind value c d) = word_or_graph kind.finds value (λ a. agree (c a)) (agree d)
agree (silently kind) = silently_graph kind.graph
agree (then c d) = then_graph (agree c) (λ a. agree (d a))
agree (recovers c d) = recovers_graph (agree c) (λ fault. agree (d fault))
agree (case_of word c d) = case_graph word (agree c) (agree d)
agree (choice test c d) = choice_graph test (agree c) (agree d)
agree (here c) = here_graph (λ text. agree (c text))
agree (many c) = many_graph (agree c) (leaves c)
