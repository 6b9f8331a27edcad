-- A userscript has one block at most, and its lines give one list of pairs.
use Rattle.std.specs.Prelude.{◌≡◌, ◌≢◌, ◌+◌, ℕ, zero, suc, List, [], ◌∷◌, ◌++◌, length, refl, Result, Ok, Err, encode_utf8_all}
use Rattle.std.specs.List.{All}
use Rattle.std.specs.Str.Lines.{lines}
use Rattle.std.proofs.Common.{ap, sym, ◌∙◌, subst, inl, inr, arith}
use Rattle.std.proofs.lemmas.Str.{encodes_same}
use Rattle.metadata_block.specs.declared.lines.BlockFault.{BlockFault}
use Rattle.metadata_block.specs.declared.lines.BlockFault.TheVariants.{NoBlock, NoEnd, NoMemory}
use Rattle.metadata_block.specs.declared.lines.Pair.{Pair}
use Rattle.metadata_block.specs.Lines.{GivePairs, GivesPair, HasBlock, HasNoStart, HasNoEnd, IsStart, IsEnd, ReadsPairs}
use Rattle.metadata_block.proofs.Forms.{one_pair}

-- ---- lists that are split at their first line of a kind

heads : (x y : List ℕ) (xs ys : List (List ℕ)) → x ∷ xs ≡ y ∷ ys → (x ≡ y) × (xs ≡ ys)
heads x y xs ys e = (cc e, cc e)

all_head : (P : List ℕ → Type 0) (x : List ℕ) (xs : List (List ℕ)) → All P (x ∷ xs) → P x
all_head P x xs h = h zero x (omega arith)

all_tail : (P : List ℕ → Type 0) (x : List ℕ) (xs : List (List ℕ)) → All P (x ∷ xs) → All P xs
all_tail P x xs h = λ k d within. h (suc k) d (omega (arith, within))

none_has : (P : List ℕ → Type 0) (before : List (List ℕ)) (x : List ℕ) (after : List (List ℕ)) → All (λ l. P l → ⊥) (before ++ (x ∷ after)) → P x → ⊥
none_has P [] x after h is = all_head (λ l. P l → ⊥) x after h is
none_has P (b ∷ bs) x after h is = none_has P bs x after (all_tail (λ l. P l → ⊥) b (bs ++ (x ∷ after)) h) is

same_split : (P : List ℕ → Type 0) (us bs : List (List ℕ)) (x y : List ℕ) (cs ds : List (List ℕ)) → us ++ (x ∷ cs) ≡ bs ++ (y ∷ ds)
    → All (λ l. P l → ⊥) us → All (λ l. P l → ⊥) bs → P x → P y → (us ≡ bs) × (cs ≡ ds)
same_split P [] [] x y cs ds e p q here there = (refl, (heads x y cs ds e).1)
same_split P [] (b ∷ bs) x y cs ds e p q here there = absurd (all_head (λ l. P l → ⊥) b bs q (subst P (heads x b cs (bs ++ (y ∷ ds)) e).0 here))
same_split P (a ∷ us) [] x y cs ds e p q here there = absurd (all_head (λ l. P l → ⊥) a us p (subst P (sym (heads a y (us ++ (x ∷ cs)) ds e).0) there))
same_split P (a ∷ us) (b ∷ bs) x y cs ds e p q here there =
    let first = heads a b (us ++ (x ∷ cs)) (bs ++ (y ∷ ds)) e in
    let rest = same_split P us bs x y cs ds first.1 (all_tail (λ l. P l → ⊥) a us p) (all_tail (λ l. P l → ⊥) b bs q) here there in
    let head = first.0 in
    let tail = rest.0 in (cc (head, tail), rest.1)

-- ---- the pairs

abbrev pair_with : ℕ → List ℕ → List ℕ → Pair
pair_with n k v = record { line = n; key = k; value = v }

same_pair : (p q : Pair) → p.line ≡ q.line → p.key ≡ q.key → p.value ≡ q.value → p ≡ q
same_pair p q line key value =
    ap (λ (n : ℕ). pair_with n p.key p.value) line ∙ (ap (λ (k : List ℕ). pair_with q.line k p.value) key ∙ ap (λ (v : List ℕ). pair_with q.line q.key v) value)

one_given : (n : ℕ) (line : List ℕ) (p q : Pair) → GivesPair n line p → GivesPair n line q → p ≡ q
one_given n line p q one other =
    let same = one_pair line (encode_utf8_all q.key) (encode_utf8_all q.value) (encode_utf8_all p.key) (encode_utf8_all p.value) other.pair one.pair in
    same_pair p q (one.number_is ∙ sym other.number_is) (encodes_same p.key q.key same.0) (encodes_same p.value q.value same.1)

cons_same : (p q : Pair) (ps qs all others : List Pair) → all ≡ p ∷ ps → others ≡ q ∷ qs → p ≡ q → ps ≡ qs → all ≡ others
cons_same p q ps qs all others e f head tail = e ∙ (ap (λ (r : Pair). r ∷ ps) head ∙ ap (λ (rs : List Pair). q ∷ rs) tail) ∙ sym f

one_list : (n : ℕ) (ls : List (List ℕ)) (ps qs : List Pair) → GivePairs n ls ps → GivePairs n ls qs → ps ≡ qs
one_list n [] ps qs one other = one ∙ sym other
one_list n (l ∷ ls) ps qs one other = elim one [
  | inl skipped ↦ elim other [
    | inl skips ↦ one_list (n + 1) ls ps qs skipped.1 skips.1
    | inr gives ↦ absurd (skipped.0 (encode_utf8_all gives.0.key) (encode_utf8_all gives.0.value) gives.2.pair gives.2.key_short gives.2.value_short)
  ]
  | inr given ↦ elim other [
    | inl skips ↦ absurd (skips.0 (encode_utf8_all given.0.key) (encode_utf8_all given.0.value) given.2.pair given.2.key_short given.2.value_short)
    | inr gives ↦ cons_same given.0 gives.0 given.1 gives.1 ps qs given.3 gives.3 (one_given n l given.0 gives.0 given.2 gives.2) (one_list (n + 1) ls given.1 gives.1 given.4 gives.4)
  ]
]

-- ---- the block

one_block : (all : List (List ℕ)) (n m : ℕ) (inside within : List (List ℕ)) → HasBlock all n inside → HasBlock all m within → (n ≡ m) × (inside ≡ within)
one_block all n m inside within a b =
    let first = same_split IsStart a.before b.before a.start b.start (inside ++ (a.end ∷ a.after)) (within ++ (b.end ∷ b.after)) (sym a.split ∙ b.split) a.none_before b.none_before a.starts b.starts in
    let second = same_split IsEnd inside within a.end b.end a.after b.after first.1 a.none_inside b.none_inside a.ends b.ends in
    (a.number_is ∙ (ap (λ (ls : List (List ℕ)). length ls + 2) first.0 ∙ sym b.number_is), second.0)

pub one_reading : (s : List ℕ) (ps qs : List Pair) → ReadsPairs s (Ok ps) → ReadsPairs s (Ok qs) → ps ≡ qs
one_reading s ps qs a b =
    let same = one_block (lines s) a.0 b.0 a.1 b.1 a.2 b.2 in
    one_list b.0 b.1 ps qs (subst (λ (k : ℕ). GivePairs k b.1 ps) same.0 (subst (λ (ls : List (List ℕ)). GivePairs a.0 ls ps) same.1 a.3)) b.3

start_given : (s : List ℕ) (ps : List Pair) → ReadsPairs s (Ok ps) → HasNoStart (lines s) → ⊥
start_given s ps a none =
    let b = a.2 in
    none_has IsStart b.before b.start (a.1 ++ (b.end ∷ b.after)) (subst (All (λ l. IsStart l → ⊥)) b.split none) b.starts

end_given : (s : List ℕ) (ps : List Pair) → ReadsPairs s (Ok ps) → HasNoEnd (lines s) → ⊥
end_given s ps a none =
    let b = a.2 in
    let same = same_split IsStart b.before none.before b.start none.start (a.1 ++ (b.end ∷ b.after)) none.after (sym b.split ∙ none.split) b.none_before none.none_before b.starts none.starts in
    none_has IsEnd a.1 b.end b.after (subst (All (λ l. IsEnd l → ⊥)) (sym same.1) none.none_after) b.ends

one_absence : (s : List ℕ) → HasNoStart (lines s) → HasNoEnd (lines s) → ⊥
one_absence s none unended = none_has IsStart unended.before unended.start unended.after (subst (All (λ l. IsStart l → ⊥)) unended.split none) unended.starts

pub one_way : (s : List ℕ) (one other : Result (List Pair) BlockFault) → one ≢ Err NoMemory → other ≢ Err NoMemory → ReadsPairs s one → ReadsPairs s other → one ≡ other
one_way s (Ok ps) (Ok qs) p q a b = ap Ok (one_reading s ps qs a b)
one_way s (Ok ps) (Err NoBlock) p q a b = absurd (start_given s ps a b)
one_way s (Ok ps) (Err NoEnd) p q a b = absurd (end_given s ps a b)
one_way s (Ok ps) (Err NoMemory) p q a b = absurd (q refl)
one_way s (Err NoBlock) (Ok qs) p q a b = absurd (start_given s qs b a)
one_way s (Err NoBlock) (Err NoBlock) p q a b = refl
one_way s (Err NoBlock) (Err NoEnd) p q a b = absurd (one_absence s a b)
one_way s (Err NoBlock) (Err NoMemory) p q a b = absurd (q refl)
one_way s (Err NoEnd) (Ok qs) p q a b = absurd (end_given s qs b a)
one_way s (Err NoEnd) (Err NoBlock) p q a b = absurd (one_absence s b a)
one_way s (Err NoEnd) (Err NoEnd) p q a b = refl
one_way s (Err NoEnd) (Err NoMemory) p q a b = absurd (q refl)
one_way s (Err NoMemory) other p q a b = absurd (p refl)
