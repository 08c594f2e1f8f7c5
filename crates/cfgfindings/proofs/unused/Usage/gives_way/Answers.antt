use Rattle.std.proofs.Common.{ℕ, List, Bool, true, false, Contains, MatchBool, subst}
use Rattle.cfgrammar.specs.Syntax.{Syntax}
use Rattle.cfgrammar.specs.TreeView.{syntax}
use Rattle.cfgrammar.specs.Unused.{IsStart, RuleName}
use Rattle.cfgfindings.specs.Findings.{IsContained}
use Rattle.cfgfindings.specs.Inner.Marks.{AreMarked, rule_keys}
use Rattle.cfgfindings.specs.Inner.Shadowing.{GivesWay}
use Rattle.cfgfindings.proofs.Marking.{marked_as}
use Rattle.cfgfindings.proofs.unused.Usage.gives_way.Goals as goal

pub returns-then-unwrap_or : goal.returns-then-unwrap_or
returns-then-unwrap_or c =
    let s = c.args.self.now in
    let bits = c.self.inside.contained in
    let marked : AreMarked (rule_keys s) (IsContained s) bits = subst (λ (s : Syntax). AreMarked (rule_keys s) (IsContained s) bits) c.self.view_is c.self.invariant.1 in
    λ gives. gives.0 (marked_as (rule_keys s) (IsContained s) bits marked c.args.number c.args.name.now c.requires _ c.get.ensures _ true c.unwrap_or.ensures c.if-unwrap_or.true)

by_declared : (s : Syntax) (name : List ℕ) (token : ℕ) → (IsContained s name → ⊥) → IsStart s (RuleName name) → (b : Bool)
    → MatchBool b (Contains s.token_directives token) (Contains s.token_directives token → ⊥) → MatchBool b (GivesWay s name token) (GivesWay s name token → ⊥)
by_declared s name token free starts true declared = (free, λ start. declared)
by_declared s name token free starts false other = λ gives. other (gives.1 starts)

pub returns-then-is_start : goal.returns-then-is_start
returns-then-is_start c =
    let s = c.args.self.now in
    let t = syntax c.self.inside.ast.now in
    let name = c.args.name.now in
    let token = c.args.token in
    let bits = c.self.inside.contained in
    let marked : AreMarked (rule_keys s) (IsContained s) bits = subst (λ (s : Syntax). AreMarked (rule_keys s) (IsContained s) bits) c.self.view_is c.self.invariant.1 in
    let starts : IsStart t (RuleName name) = subst (λ b. MatchBool b (IsStart t (RuleName name)) (IsStart t (RuleName name) → ⊥)) c.if-is_start.true c.is_start.ensures in
    by_declared s name token
    (marked_as (rule_keys s) (IsContained s) bits marked c.args.number name c.requires _ c.get.ensures _ false c.unwrap_or.ensures c.if-unwrap_or.false)
    (subst (λ (s : Syntax). IsStart s (RuleName name)) c.self.view_is starts) c.is_declared.result
    (subst (λ (s : Syntax). MatchBool c.is_declared.result (Contains s.token_directives token) (Contains s.token_directives token → ⊥)) c.self.view_is c.is_declared.ensures)

pub returns : goal.returns
returns c =
    let s = c.args.self.now in
    let t = syntax c.self.inside.ast.now in
    let name = c.args.name.now in
    let bits = c.self.inside.contained in
    let marked : AreMarked (rule_keys s) (IsContained s) bits = subst (λ (s : Syntax). AreMarked (rule_keys s) (IsContained s) bits) c.self.view_is c.self.invariant.1 in
    let other : IsStart t (RuleName name) → ⊥ = subst (λ b. MatchBool b (IsStart t (RuleName name)) (IsStart t (RuleName name) → ⊥)) c.if-is_start.false c.is_start.ensures in (
      marked_as (rule_keys s) (IsContained s) bits marked c.args.number name c.requires _ c.get.ensures _ false c.unwrap_or.ensures c.if-unwrap_or.false,
      λ start. absurd (subst (λ (s : Syntax). IsStart s (RuleName name) → ⊥) c.self.view_is other start),
    )
