-- Each entry of a legal history goes through after the entries before it.
use Rattle.std.proofs.Common.{◌≡◌, List, ◌∷◌, [], ◌++◌, reverse, ◌∙◌, ap, subst, append_assoc}
use Rattle.std.proofs.lemmas.List.{reverse-append}
use Rattle.tk_journal.specs.declared.entry.Entry.{Entry}
use Rattle.tk_journal.specs.Legal.{IsLegal, IsStep}
use Rattle.tk_store.proofs.Legality.{legal_older}

reverse_around : (front : List Entry) (e : Entry) (rest : List Entry) → reverse (front ++ e ∷ rest) ≡ reverse rest ++ (e ∷ reverse front)
reverse_around front e rest =
    let one : reverse (e ∷ rest) ≡ reverse rest ++ e ∷ [] = reverse-append (e ∷ []) rest in
    reverse-append front (e ∷ rest) ∙ ap (λ (h : List Entry). h ++ reverse front) one ∙ append_assoc (reverse rest) (e ∷ []) (reverse front)

pub next_step : (front : List Entry) (e : Entry) (rest : List Entry) → IsLegal (reverse (front ++ e ∷ rest)) → IsStep (reverse front) e
next_step front e rest legal = (legal_older (reverse rest) (e ∷ reverse front) (subst IsLegal (reverse_around front e rest) legal)).1
