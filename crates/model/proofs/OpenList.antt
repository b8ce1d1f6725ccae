-- The open list: what is put stands at its place, nothing else is added, and nothing is lost.
use Rattle.std.proofs.Common.{◌≡◌, ℕ, suc, ◌<◌, ◌≤◌, true, ◌⊎◌, List, [], ◌∷◌, length, false, None, refl, ◌∙◌, arith}
use mathlib.Core.List.Memᴰ
use mathlib.Core.List.{Memᴰ}
use Rattle.std.proofs.lemmas.Bool.{cond_both}
use Rattle.std.proofs.lemmas.Bool.Decides.{nat_tests}
use Rattle.model.specs.Limits.{most_steps}
use Rattle.model.specs.OpenList.{Pair, Before, precedes, insert, put_refusal, put, InOrder, times, OpenListsKeepOrder}

-- The order of pairs.

precedes_before : (a b : Pair) → precedes a b ≡ true → Before a b
precedes_before a b e = grind (arith, nat_tests)

-- Of two pairs that one which does not precede stands behind; a pair may stand before itself, and before all behind which it may.
before_or : (a b : Pair) → precedes a b ≡ false → Before b a
before_or a b e = grind (arith, nat_tests)

before_itself : (a : Pair) → Before a a
before_itself a = grind arith

before_on : (a b c : Pair) → Before a b → Before b c → Before a c
before_on a b c e f = grind arith

pub before_costs : (a b : Pair) → Before a b → a.0 ≤ b.0
before_costs a b e = grind arith

before_both : (a b : Pair) → Before a b → Before b a → a ≡ b
before_both a b e f = grind arith

pub insert_length : (a : Pair) (bs : List Pair) → length (insert a bs) ≡ suc (length bs)
insert_length a [] = refl
insert_length a (b ∷ bs) = grind (arith, insert_length a bs)

pub put_is_there : (a : Pair) (bs : List Pair) → Memᴰ a (insert a bs)
put_is_there a [] = Memᴰ.head refl
put_is_there a (b ∷ bs) = grind (arith, put_is_there a bs, Memᴰ.head, Memᴰ.tail)

pub others_stay : (a x : Pair) (bs : List Pair) → Memᴰ x bs → Memᴰ x (insert a bs)
others_stay a x [] h = absurd (Memᴰ.not-nil h)
others_stay a x (b ∷ bs) h = grind (arith, others_stay a x bs, Memᴰ.cases_cons h, Memᴰ.head, Memᴰ.tail)

pub put_or_there : (a x : Pair) (bs : List Pair) → Memᴰ x (insert a bs) → (x ≡ a) ⊎ Memᴰ x bs
put_or_there a x [] h = Memᴰ.cases_cons h
put_or_there a x (b ∷ bs) h = grind (arith, put_or_there a x bs, Memᴰ.cases_cons, Memᴰ.head, Memᴰ.tail)

pub insert_in_order : (a : Pair) (bs : List Pair) → InOrder bs → InOrder (insert a bs)
insert_in_order a [] o = ((λ b h. absurd (Memᴰ.not-nil h)), tt)
insert_in_order a (b ∷ bs) o = cond_both (precedes a b) (a ∷ b ∷ bs) (b ∷ insert a bs) InOrder
    (λ before. ((λ x h. grind (arith, precedes_before a b before, o.0 x, Memᴰ.cases_cons h)), o))
    (λ behind. ((λ x h. grind (arith, nat_tests, o.0 x, put_or_there a x bs h)), insert_in_order a bs o.1))

-- A put that is refused changes nothing, and else the pair is inserted.

pub put_in_order : (room : ℕ) (a : Pair) (ps : List Pair) → InOrder ps → InOrder (put room a ps)
put_in_order room a ps o = grind (arith, insert_in_order a ps o)

not_refused : (cost size room : ℕ) → cost ≤ most_steps → size < room → put_refusal cost size room ≡ None
not_refused cost size room cheap fits = grind (arith, nat_tests)

pub put_inserts : (room : ℕ) (a : Pair) (ps : List Pair) → a.0 ≤ most_steps → length ps < room → put room a ps ≡ insert a ps
put_inserts room a ps cheap fits = grind (arith, not_refused a.0 (length ps) room cheap fits)

-- How often a pair is in a list.

-- It is in the list that it is put into as often as if it were put first.
insert_times : (a x : Pair) (ps : List Pair) → times x (insert a ps) ≡ times x (a ∷ ps)
insert_times a x [] = refl
insert_times a x (b ∷ ps) = grind (arith, insert_times a x ps)

times_itself : (a : Pair) (ps : List Pair) → times a (a ∷ ps) ≡ suc (times a ps)
times_itself a ps = grind (arith, nat_tests)

times_other : (a x : Pair) (ps : List Pair) → (x ≡ a → ⊥) → times x (a ∷ ps) ≡ times x ps
times_other a x ps n = grind (arith, nat_tests)

times_rest : (x a b : Pair) (ps qs : List Pair) → a ≡ b → times x (a ∷ ps) ≡ times x (b ∷ qs) → times x ps ≡ times x qs
times_rest x a b ps qs same e = grind arith

times_there : (x : Pair) (ps : List Pair) → 1 ≤ times x ps → Memᴰ x ps
times_there x [] h = absurd (omega arith)
times_there x (a ∷ ps) h = grind (arith, nat_tests, times_there x ps, Memᴰ.head, Memᴰ.tail)

-- The head of a list in order stands before whatever is in the list.
pub head_before : (a x : Pair) (ps : List Pair) → InOrder (a ∷ ps) → Memᴰ x (a ∷ ps) → Before a x
head_before a x ps o h = grind (arith, o.0 x, Memᴰ.cases_cons h)

pub one_order : (ps qs : List Pair) → InOrder ps → InOrder qs → ((x : Pair) → times x ps ≡ times x qs) → ps ≡ qs
one_order [] [] o k h = refl
one_order [] (b ∷ qs) o k h = absurd (omega (arith, h b, times_itself b qs))
one_order (a ∷ ps) [] o k h = absurd (omega (arith, h a, times_itself a ps))
one_order (a ∷ ps) (b ∷ qs) o k h =
    let a_there = times_there a (b ∷ qs) (omega (arith, h a, times_itself a ps)) in
    let b_there = times_there b (a ∷ ps) (omega (arith, h b, times_itself b qs)) in
    let same : a ≡ b = before_both a b (head_before a b ps o b_there) (head_before b a qs k a_there) in
    let fewer = one_order ps qs o.1 k.1 (λ x. times_rest x a b ps qs same (h x)) in
    cc

pub open_lists_keep_order : OpenListsKeepOrder
open_lists_keep_order = record {
  put_keeps_order = put_in_order;
  insert_adds_it = λ a ps. insert_times a a ps ∙ times_itself a ps;
  insert_adds_no_other = λ a x ps other. insert_times a x ps ∙ times_other a x ps other;
  put_where_there_is_room = put_inserts;
  one_order = one_order;
}
