-- Tables that are asked place by place.
use Rattle.std.proofs.Common.{◌≡◌, ℕ, zero, suc, ◌<◌, get_or, replicate, arith}
use Rattle.std.proofs.lemmas.List.{get_or-replicate, get_or_past, length-replicate}

-- What holds of 0, and of suc k for each k below n, holds of all below suc n.
pub from_first : (P : ℕ → Type 0) {n : ℕ} → P 0 → ((k : ℕ) → k < n → P (suc k)) → (k : ℕ) → k < suc n → P k
from_first P first later zero l = first
from_first P first later (suc k) l = later k (omega arith)

-- A table that holds one value everywhere, and has it for its default.
pub same_everywhere : {A : Type 0} (n : ℕ) (v : A) (q : ℕ) → get_or (replicate n v) q v ≡ v
same_everywhere n v q = grind (arith, get_or-replicate, get_or_past, length-replicate)
