-- Who owns the entries of a controller, and of a node.
use Rattle.std.proofs.Common.{◌≡◌, ℕ, Bool, true, false, eqb, eqb-true, eq-eqb, refl, sym, ap, ◌∙◌, arith}
use Rattle.std.specs.Prelude.{nat_eq}
use Rattle.std.proofs.lemmas.Bool.{false≢true}
use Rattle.tk_journal.specs.declared.entry.Actor.{Actor}
use Rattle.tk_journal.specs.declared.entry.Actor.TheVariants as actors
use Rattle.tk_store.specs.Notes.{controller_owner, kubelet_owner, owner_of}
use Rattle.tk_rounds.specs.Members.{by_controller, by_kubelet}

same_number : (i n : ℕ) → nat_eq i n ≡ true → i ≡ n
same_number i n is = eqb-true i n is

pub of_controller_owner : (n : ℕ) (a : Actor) → by_controller n a ≡ true → owner_of a ≡ controller_owner n
of_controller_owner n (actors.Runs i) is = ap controller_owner (same_number i n is)
of_controller_owner n (actors.Tasks i) is = ap controller_owner (same_number i n is)
of_controller_owner n _ is = absurd (false≢true is)

pub of_kubelet_owner : (n : ℕ) (a : Actor) → by_kubelet n a ≡ true → owner_of a ≡ kubelet_owner n
of_kubelet_owner n (actors.Kubelet i life) is = ap kubelet_owner (same_number i n is)
of_kubelet_owner n _ is = absurd (false≢true is)

-- who doesn't own them isn't the one
not_by : (mine : Bool) (a owner : ℕ) → (mine ≡ true → a ≡ owner) → eqb a owner ≡ false → mine ≡ false
not_by true a owner is other = absurd (false≢true (sym other ∙ eq-eqb a owner (is refl)))
not_by false a owner is other = refl

pub not_of_controller : (n : ℕ) (a : Actor) → eqb (owner_of a) (controller_owner n) ≡ false → by_controller n a ≡ false
not_of_controller n a = not_by (by_controller n a) (owner_of a) (controller_owner n) (of_controller_owner n a)

pub not_of_kubelet : (n : ℕ) (a : Actor) → eqb (owner_of a) (kubelet_owner n) ≡ false → by_kubelet n a ≡ false
not_of_kubelet n a = not_by (by_kubelet n a) (owner_of a) (kubelet_owner n) (of_kubelet_owner n a)

-- and who owns them is the one
pub controller_by : (i : ℕ) (a : Actor) → owner_of a ≡ controller_owner i → by_controller i a ≡ true
controller_by i (actors.Runs j) is = eq-eqb j i (omega (arith, is))
controller_by i (actors.Tasks j) is = eq-eqb j i (omega (arith, is))
controller_by i actors.Admission is = absurd (omega (arith, is))
controller_by i actors.User is = absurd (omega (arith, is))
controller_by i (actors.Kubelet j life) is = absurd (omega (arith, is))

pub kubelet_by : (i : ℕ) (a : Actor) → owner_of a ≡ kubelet_owner i → by_kubelet i a ≡ true
kubelet_by i (actors.Kubelet j life) is = eq-eqb j i (omega (arith, is))
kubelet_by i actors.Admission is = absurd (omega (arith, is))
kubelet_by i actors.User is = absurd (omega (arith, is))
kubelet_by i (actors.Runs j) is = absurd (omega (arith, is))
kubelet_by i (actors.Tasks j) is = absurd (omega (arith, is))
