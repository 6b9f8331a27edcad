-- Bytes that are added piece by piece.
use Rattle.std.proofs.Common.{◌≡◌, ◌+◌, ℕ, List, ◌++◌, take, drop, Option, None, Some, IfSome, subst, ap, sym, ◌∙◌, append_assoc}
use Rattle.std.proofs.Math.Seq.{take-add}
use Rattle.outside.specs.Contents.{Appends}

-- after the first n bytes were added, the next k
pub Appends-more : (old mid new : Option (List ℕ)) (bytes : List ℕ) (n k : ℕ) → Appends old mid (take n bytes) → Appends mid new (take k (drop n bytes)) → Appends old new (take (n + k) bytes)
Appends-more None mid new bytes n k first second = tt
Appends-more (Some all) mid new bytes n k first second =
    let P : Option (List ℕ) → Type 0 = λ o. IfSome o (λ bs. new ≡ Some (bs ++ take k (drop n bytes))) in
    subst P first second ∙ ap (λ xs. Some xs) (append_assoc all (take n bytes) (take k (drop n bytes)) ∙ ap (λ xs. all ++ xs) (sym (take-add n k bytes)))
