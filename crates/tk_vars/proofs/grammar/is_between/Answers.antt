use Rattle.std.proofs.Common.{◌≡◌, ℕ, List, true, false, not, ◌&&◌, length, take, drop, ◌-◌, sym, ◌∙◌, ap, get_or, refl, arith}
use Rattle.std.specs.List.{list_all}
use Rattle.tk_vars.specs.Grammar.{is_quoted_byte}
use Rattle.std.specs.Prelude.{◌==◌}
use Rattle.std.proofs.lemmas.Bool.{eqb-true, eq-eqb}
use Rattle.tk_vars.proofs.HeadFacts.{between_test}
use Rattle.tk_vars.proofs.grammar.is_between.Goals as goal
use Rattle.tk_vars.proofs.grammar.is_between.Goals.{then-first-quote, else-first-quote}

pub returns-then-last-quote : goal.returns-then-last-quote
returns-then-last-quote c =
    elim c.if-first-quote.branch [
      | then-first-quote w ↦
          let inner : List ℕ = c.args.inner.now in
          let same : length inner - 1 - 1 ≡ length inner - 2 = omega arith in
          c.is_quoted_name.ensures
          ∙ ap (λ n. not (length (take n (drop 1 inner)) == 0) && list_all is_quoted_byte (take n (drop 1 inner))) same
          ∙ sym (between_test c.args.quote c.args.inner.now true true c.in-len2-up.len_at_least (eq-eqb (get_or c.args.inner.now 0 0) c.args.quote w.if-first-quote.true) (sym w.value-is ∙ c.if-last-quote.true))
      | else-first-quote w ↦ absurd (w.if-first-quote.false (eqb-true (get_or c.args.inner.now 0 0) c.args.quote (sym w.value-is ∙ c.if-last-quote.true)))
    ]

pub returns-else-last-quote : goal.returns-else-last-quote
returns-else-last-quote c =
    elim c.if-first-quote.branch [
      | then-first-quote w ↦ c.if-last-quote.false
          ∙ sym (between_test c.args.quote c.args.inner.now true false c.in-len2-up.len_at_least (eq-eqb (get_or c.args.inner.now 0 0) c.args.quote w.if-first-quote.true) (sym w.value-is ∙ c.if-last-quote.false))
      | else-first-quote w ↦ c.if-last-quote.false
          ∙ sym (between_test c.args.quote c.args.inner.now false (get_or c.args.inner.now (length c.args.inner.now - 1) 0 == c.args.quote) c.in-len2-up.len_at_least (sym w.value-is ∙ c.if-last-quote.false) refl)
    ]
