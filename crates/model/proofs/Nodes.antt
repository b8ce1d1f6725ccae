-- The conditions of a node stay the same when nodes are added.
use Rattle.std.proofs.Common.{◌≡◌, ℕ, zero, suc, ◌<◌, ◌≤◌, ◌⊎◌, List, [], ◌∷◌, ◌++◌, length, Some, None, Option, refl, sym, ap, ◌∙◌, subst, inl, inr, add-one, arith}
use Rattle.std.proofs.lemmas.List.{length_push, get_or_append_left, get_or_push}
use Rattle.std.proofs.lemmas.Bool.{cases_lt}
use Rattle.model.specs.declared.item.Condition.{Condition}
use Rattle.model.specs.declared.node.Branch.{Branch}
use Rattle.model.specs.declared.node.Node.{Node}
use Rattle.model.specs.Nodes.{nowhere, child, branch_of, followed, conditions_of}

-- It hangs on nothing, or on a node before node j.
abbrev pub HangsBefore : ℕ → Option Branch → Type 0
HangsBefore j None = Unit {0}
HangsBefore j (Some b) = b.parent < j

-- Every node does.
abbrev pub Family : List Node → Type 0
Family ns = (j : ℕ) → j < length ns → HangsBefore j (branch_of ns j)

-- Following more parents than there are forebears adds nothing.
follow_more : (ns : List Node) → Family ns → (k j : ℕ) (b : Option Branch) → HangsBefore j b → j ≤ k → j ≤ length ns → followed ns (suc k) b ≡ followed ns k b
follow_more ns fam k j None hangs low inside = refl
follow_more ns fam zero j (Some b) hangs low inside = absurd (omega arith)
follow_more ns fam (suc k) j (Some b) hangs low inside =
    ap (λ cs. b.condition ∷ cs) (follow_more ns fam k b.parent (branch_of ns b.parent) (fam b.parent (omega arith)) (omega arith) (omega arith))

-- One more node does not alter how the others hang,
branch_stays : (ns : List Node) (n : Node) (j : ℕ) → j < length ns → branch_of (ns ++ (n ∷ [])) j ≡ branch_of ns j
branch_stays ns n j inside = ap (λ (x : Node). x.branch) (get_or_append_left ns (n ∷ []) nowhere j inside)

-- nor what is followed from them.
followed_among : (ns : List Node) (n : Node) → Family ns → (k j : ℕ) (b : Option Branch) → HangsBefore j b → j ≤ length ns → followed (ns ++ (n ∷ [])) k b ≡ followed ns k b
followed_among ns n fam k j None hangs inside = refl
followed_among ns n fam zero j (Some b) hangs inside = refl
followed_among ns n fam (suc k) j (Some b) hangs inside =
    rw (branch_stays ns n b.parent (omega arith))
    (ap (λ cs. b.condition ∷ cs) (followed_among ns n fam k b.parent (branch_of ns b.parent) (fam b.parent (omega arith)) (omega arith)))

pub one_longer : (ns : List Node) (n : Node) → length (ns ++ (n ∷ [])) ≡ suc (length ns)
one_longer ns n = rw (length_push, add-one)

pub conditions_stay : (ns : List Node) (n : Node) → Family ns → (j : ℕ) → j < length ns → conditions_of (ns ++ (n ∷ [])) j ≡ conditions_of ns j
conditions_stay ns n fam j inside =
    rw (one_longer ns n, branch_stays ns n j inside)
    (followed_among ns n fam (suc (length ns)) j (branch_of ns j) (fam j inside) (omega arith) ∙ follow_more ns fam (length ns) j (branch_of ns j) (fam j inside) (omega arith) (omega arith))

-- A new node hangs as it was made,
branch_of_new : (ns : List Node) (n : Node) → branch_of (ns ++ (n ∷ [])) (length ns) ≡ n.branch
branch_of_new ns n = ap (λ (x : Node). x.branch) (get_or_push ns n nowhere (length ns) refl)

-- and a child has its own condition and those of its parent.
pub conditions_of_child : (ns : List Node) (i : ℕ) (c : Condition) (cost : ℕ) → Family ns → i < length ns
    → conditions_of (ns ++ (child i c cost ∷ [])) (length ns) ≡ c ∷ conditions_of ns i
conditions_of_child ns i c cost fam inside =
    let n : Node = child i c cost in
    rw (one_longer ns n, branch_of_new ns n, branch_stays ns n i inside)
    (ap (λ cs. c ∷ cs) (followed_among ns n fam (length ns) i (branch_of ns i) (fam i inside) (omega arith)))

pub family_grows : (ns : List Node) (n : Node) → Family ns → HangsBefore (length ns) n.branch → Family (ns ++ (n ∷ []))
family_grows ns n fam new j inside = go (cases_lt j (length ns))
  where
    go : (j < length ns) ⊎ (length ns ≤ j) → HangsBefore j (branch_of (ns ++ (n ∷ [])) j)
    go (inl h) = subst (HangsBefore j) (sym (branch_stays ns n j h)) (fam j h)
    go (inr h) =
        let e : j ≡ length ns = omega (arith, one_longer ns n) in
        rw (e, branch_of_new ns n) new
