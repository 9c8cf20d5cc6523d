-- Claims, and the lives in which they were made.
use Rattle.std.proofs.Common.{◌≡◌, ◌≤◌, ◌++◌, ◌+◌, ℕ, suc, List, [], ◌∷◌, length, Option, Some, None, true, false, refl, sym, ◌∙◌, ap, subst, arith, length-append}
use Rattle.std.specs.Prelude.{nat_eq, nat_le, Bool, if◌then◌else◌}
use Rattle.std.proofs.lemmas.Bool.{eq-eqb, false≢true}
use Rattle.std.proofs.lemmas.Option.{same_Some}
use Rattle.tk_types.specs.declared.scenario.Kind.TheVariants as kinds
use Rattle.tk_journal.specs.declared.act.Act.{Act}
use Rattle.tk_journal.specs.declared.act.Act.TheVariants as acts
use Rattle.tk_journal.specs.declared.entry.Actor.{Actor}
use Rattle.tk_journal.specs.declared.entry.Actor.TheVariants as actors
use Rattle.tk_journal.specs.declared.entry.Entry.{Entry}
use Rattle.tk_journal.specs.declared.object.Claim.{Claim}
use Rattle.tk_journal.specs.declared.object.PodState.{PodState}
use Rattle.tk_journal.specs.Effects.{claim_of as claim_by, pod_after, pod_made, writes}
use Rattle.tk_journal.specs.Grows.{Grows}
use Rattle.tk_journal.specs.History.{View, past, pod_of, pod_written, view_at}
use Rattle.tk_journal.specs.Legal.{IsLegal, is_admit}
use Rattle.tk_journal.specs.Rows.{IsJustified}
use Rattle.std.proofs.lemmas.List.Elements.{All-head, All-tail}
use Rattle.tk_journal.proofs.Claimed.{grows_past}
use Rattle.tk_journal.proofs.Grows.{pod_row_of}
use Rattle.tk_journal.proofs.Past.{past_whole, state_cases}
use Rattle.tk_journal.proofs.Present.{PodRow}
use Rattle.tk_lives.specs.Lives.{greatest_life, life_in}
use Rattle.tk_lives.specs.Laws.{AdmittedHasNoLife, ClaimsStay, FrontsAreLegal, NextLifeIsNew, NextLifeOwnsNothingBefore}

-- the claim of a kubelet in a life
abbrev own_claim : ℕ → ℕ → Claim
own_claim number life = record { number = number; life = life }

-- a pod that is made is unclaimed
unclaimed_new : (act : Act) (pod : PodState) → pod_made act ≡ Some pod → pod.claim ≡ None
unclaimed_new (acts.MakePod name task_run attempt plan mark) pod is = ap (λ (p : PodState). p.claim) (sym (same_Some _ pod is))
unclaimed_new act pod is = cc

-- a kubelet's own life
own_life : (number life : ℕ) → life_in number (actors.Kubelet number life) ≡ life
own_life number life = pick (nat_eq number number) (eq-eqb number number refl)
  where
    pick : (b : Bool) → b ≡ true → (if b then life else 0) ≡ life
    pick true is = refl
    pick false is = absurd (false≢true is)

module _ (number : ℕ) where
  -- a claim that an entry makes is of a life that is at most the entry's, and any other was there before
  changed : (view : View) (e : Entry) (act : Act) (pod : PodState) (claim : Claim) (bound : ℕ) → life_in number e.actor ≤ bound → PodRow view e.actor e.moment act pod
      → (pod.claim ≡ Some claim → claim.life ≤ bound) → claim.number ≡ number → (pod_after e.actor act pod).claim ≡ Some claim → claim.life ≤ bound
  changed view e (acts.ClaimPod name) pod claim bound own row before mine is =
      let same : record { number = row.number; life = row.life } ≡ claim = same_Some _ claim (sym (ap claim_by row.by) ∙ is) in
      let here : row.number ≡ number = ap (λ (c : Claim). c.number) same ∙ mine in
      let lived : life_in number e.actor ≡ row.life = ap (life_in number) (row.by ∙ ap (λ (n : ℕ). actors.Kubelet n row.life) here) ∙ own_life number row.life in
      let now : row.life ≡ claim.life = ap (λ (c : Claim). c.life) same in
      omega (arith, own, lived, now)
  changed view e (acts.EndPod name exits outcome) pod claim bound own row before mine is = before is
  changed view e _ pod claim bound own row before mine is = absurd row

  written : (e : Entry) (older : List Entry) → IsLegal (e ∷ older) → (name : List ℕ) (pod : PodState) (claim : Claim) (bound : ℕ) → life_in number e.actor ≤ bound → pod.claim ≡ Some claim → claim.number ≡ number
      → ((p : PodState) → pod_of older name ≡ Some p → p.claim ≡ Some claim → claim.life ≤ bound)
      → (was : Option PodState) → pod_of older name ≡ was → writes kinds.Pods name e ≡ true → pod_written e was ≡ Some pod → claim.life ≤ bound
  written e older legal name pod claim bound own claimed mine earlier None there hit made = let none = unclaimed_new e.act pod made in cc (none, claimed)
  written e older legal name pod claim bound own claimed mine earlier (Some before) there hit made =
      changed (view_at e.fronts older) e e.act before claim bound own (pod_row_of older e legal.1 name before hit there) (earlier before there) mine
      (ap (λ (p : PodState). p.claim) (same_Some _ pod made) ∙ claimed)

  pub lived : (history : List Entry) → IsLegal history → (bound : ℕ) → greatest_life number history ≤ bound → (name : List ℕ) (pod : PodState) (claim : Claim) → pod_of history name ≡ Some pod → pod.claim ≡ Some claim → claim.number ≡ number → claim.life ≤ bound
  lived [] legal bound le name pod claim is claimed mine = cc (is)
  lived (e ∷ older) legal bound le name pod claim is claimed mine =
      let own : life_in number e.actor ≤ bound = omega (arith, le) in
      let rest : greatest_life number older ≤ bound = omega (arith, le) in
      state_cases (writes kinds.Pods name) (λ (before : List Entry) d was. pod_written d was) (λ (o : Option PodState). o ≡ Some pod → claim.life ≤ bound) e older
      (λ miss there. lived older legal.0 bound rest name pod claim there claimed mine)
      (λ hit made. written e older legal name pod claim bound own claimed mine
      (λ p there has. lived older legal.0 bound rest name p claim there has mine) (pod_of older name) refl hit made)
      is

pub next_life_is_new : NextLifeIsNew
next_life_is_new history legal number life new name state is claimed =
    let le = lived number history legal (greatest_life number history) (omega arith) name state (own_claim number life) is claimed refl in
    omega (arith, le, new)

choose : {T : Type 0} → (b : Bool) (a other wanted : T) → (b ≡ true → a ≡ wanted) → (b ≡ false → other ≡ wanted) → (if b then a else other) ≡ wanted
choose true a other wanted hit miss = hit refl
choose false a other wanted hit miss = miss refl

not_longer : (x newer before : ℕ) → x ≡ newer + before → nat_le (suc x) before ≡ true → ⊥
not_longer x newer before is le = grind arith

-- the history before is that at its position
past_before : (newer before : List Entry) → past (length before) (newer ++ before) ≡ before
past_before [] before = past_whole (length before) before (omega arith)
past_before (x ∷ newer) before =
    choose (nat_le (suc (length (newer ++ before))) (length before)) (x ∷ (newer ++ before)) (past (length before) (newer ++ before)) before
    (λ is. absurd (not_longer (length (newer ++ before)) (length newer) (length before) (length-append newer before) is))
    (λ miss. past_before newer before)

grown : (newer before : List Entry) → IsLegal (newer ++ before) → Grows before (newer ++ before)
grown newer before legal = subst (λ (h : List Entry). Grows h (newer ++ before)) (past_before newer before) (grows_past (length before) (newer ++ before) legal)

pub legal_before : FrontsAreLegal
legal_before [] before legal = legal
legal_before (e ∷ newer) before legal = legal_before newer before legal.0

pub claims_stay : ClaimsStay
claims_stay newer before legal name state claim is claimed =
    let later = (grown newer before legal).pods name state is in
    record { it = later.it; is = later.is; has = later.has.claim claim claimed }

none_or : (claim : Option Claim) → ((c : Claim) → claim ≡ Some c → ⊥) → claim ≡ None
none_or None none = refl
none_or (Some c) none = absurd (none c refl)

pub owns_nothing_before : NextLifeOwnsNothingBefore
owns_nothing_before newer before legal number life new name state is claimed old was = none_or old.claim (λ c had.
    let later = claims_stay newer before legal name old c was had in
    let same_pod : later.it ≡ state = same_Some _ state (sym later.is ∙ is) in
    let same : c ≡ own_claim number life = same_Some c (own_claim number life) (sym later.has ∙ ap (λ (p : PodState). p.claim) same_pod ∙ claimed) in
    next_life_is_new before (legal_before newer before legal) number life new name old was (had ∙ ap Some same))

-- what admits is of admission
admission_by : (view : View) (actor : Actor) (moment : ℕ) (act : Act) → is_admit act ≡ true → IsJustified view actor moment act → actor ≡ actors.Admission
admission_by view actor moment (acts.Admit name spec pending asked root) admits justified = justified
admission_by view actor moment _ admits justified = cc

pub no_life : AdmittedHasNoLife
no_life [] legal admits number = refl
no_life (e ∷ older) legal admits number =
    let by = admission_by (view_at e.fronts older) e.actor e.moment e.act (All-head (λ (d : Entry). is_admit d.act ≡ true) e older admits) legal.1.justified in
    let here : life_in number e.actor ≡ 0 = ap (life_in number) by in
    let rest = no_life older legal.0 (All-tail (λ (d : Entry). is_admit d.act ≡ true) e older admits) number in
    omega (arith, here, rest)
