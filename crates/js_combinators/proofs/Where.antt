-- One reader after another, where only some values of the first let the second be completed.
use Rattle.std.proofs.Common.{◌≡◌, [], ◌∷◌, ◌++◌, Ok, Err, refl, sym, ap, ◌∙◌, append_assoc}
use Rattle.js_syntax.specs.Symbols.{Tokens, next}
use Rattle.js_combinators.specs.Readers.{Outcome, Reader, and_then, ◌>>=◌}
use Rattle.js_combinators.proofs.Laws.{Law, Sane, Opens, Passed, Completes, Completable, completable_of, next_alike, no_end_append, first_again, second_split}

-- what is read is such
pub record Yields {A : Type 0} (P : A → Type 0) (r : Reader A) : Type 0 where
  pub such : (ts : Tokens) (a : A) (rest : Tokens) → r ts ≡ Ok (a, rest) → P a

pub record Such {A B : Type 0} (P : A → Type 0) (F G : Tokens → Type 0) (r : Reader A) (s : A → Reader B) : Type 0 where
  pub yields : Yields P r
  pub sample : Tokens
  pub follows : F sample
  pub opens : (a : A) → P a → Opens F G (s a)
  pub sane : (a : A) → P a → Sane G (s a)
  pub ends : (a : A) (rest : Tokens) (b : B) → P a → G rest → s a rest ≡ Ok (b, rest) → F rest

completes : {A B : Type 0} (P : A → Type 0) (F G : Tokens → Type 0) (r : Reader A) (s : A → Reader B) → Such P F G r s → (used : Tokens) → Completes F r used → Completes G (r >>= s) used
completes P F G r s such used c =
    let o = such.opens c.value (such.yields.such (used ++ (c.more ++ such.sample)) c.value such.sample (c.reads such.sample such.follows)) in
    record {
      more = c.more ++ o.more;
      value = o.value;
      reads = λ rest g. ap (λ x. and_then (r (used ++ x)) s) (append_assoc c.more o.more rest) ∙ ap (λ x. and_then x s) (c.reads (o.more ++ rest) (o.before rest g)) ∙ o.reads rest g;
    }

completable : {A B : Type 0} (P : A → Type 0) (F G : Tokens → Type 0) (r : Reader A) (s : A → Reader B) → Such P F G r s → (used : Tokens) → Completable F r used → Completable G (r >>= s) used
completable P F G r s such [] c = tt
completable P F G r s such (t ∷ used) c = completes P F G r s such (t ∷ used) c

second_completable : {A B : Type 0} (P : A → Type 0) (F G : Tokens → Type 0) (r : Reader A) (s : A → Reader B) → Such P F G r s → (ts : Tokens) (a : A) (mid rest : Tokens) → P a → (p : Passed F r ts a mid)
    (used : Tokens) → mid ≡ used ++ rest → Completable G (s a) used → Completable G (r >>= s) (p.used ++ used)
second_completable P F G r s such ts a mid rest h p [] e c =
    let o = such.opens a h in
    completable_of G (r >>= s) (p.used ++ []) (record {
      more = o.more;
      value = o.value;
      reads = λ after g. ap (λ x. and_then (r x) s) (append_assoc p.used [] (o.more ++ after)) ∙ ap (λ x. and_then x s) (p.closed (o.more ++ after) (o.before after g)) ∙ o.reads after g;
    })
second_completable P F G r s such ts a mid rest h p (t ∷ used) e c =
    completable_of G (r >>= s) (p.used ++ t ∷ used) (record {
      more = c.more;
      value = c.value;
      reads = λ after g. ap (λ x. and_then (r x) s) (append_assoc p.used (t ∷ used) (c.more ++ after)) ∙ ap (λ x. and_then x s) (p.again (t ∷ (used ++ (c.more ++ after))) (sym (ap next e))) ∙ c.reads after g;
    })

second : {A B : Type 0} (P : A → Type 0) (F G : Tokens → Type 0) (r : Reader A) (s : A → Reader B) → Such P F G r s → (ts : Tokens) (a : A) (mid : Tokens) → P a → (p : Passed F r ts a mid) (o : Outcome B) → Law G (s a) mid o → Law G (r >>= s) ts o
second P F G r s such ts a mid h p (Ok v) q = record {
  used = p.used ++ q.used;
  split = second_split p.used ts mid q.used v.1 p.split q.split;
  plain = no_end_append p.used q.used p.plain q.plain;
  again = λ other e. ap (λ x. and_then (r x) s) (append_assoc p.used q.used other) ∙ ap (λ x. and_then x s) (p.again (q.used ++ other) (next_alike q.used other v.1 e ∙ sym (ap next q.split))) ∙ q.again other e;
  closed = λ other g. ap (λ x. and_then (r x) s) (append_assoc p.used q.used other)
      ∙ ap (λ x. and_then x s) (first_again F r ts a mid p q.used v.1 other q.split (λ none. such.ends a other v.0 h g (ap (λ x. s a (x ++ other)) (sym none) ∙ q.closed other g)))
      ∙ q.closed other g;
}
second P F G r s such ts a mid h p (Err v) q = record {
  used = p.used ++ q.used;
  split = second_split p.used ts mid q.used v.1 p.split q.split;
  plain = no_end_append p.used q.used p.plain q.plain;
  again = λ other e. ap (λ x. and_then (r x) s) (append_assoc p.used q.used other) ∙ ap (λ x. and_then x s) (p.again (q.used ++ other) (next_alike q.used other v.1 e ∙ sym (ap next q.split))) ∙ q.again other e;
  completable = second_completable P F G r s such ts a mid v.1 h p q.used q.split q.completable;
}

at : {A B : Type 0} (P : A → Type 0) (F G : Tokens → Type 0) (r : Reader A) (s : A → Reader B) → Such P F G r s → (ts : Tokens) (o : Outcome A) → r ts ≡ o → Law F r ts o → Law G (r >>= s) ts (and_then o s)
at P F G r s such ts (Ok v) e p = let h = such.yields.such ts v.0 v.1 e in second P F G r s such ts v.0 v.1 h p (s v.0 v.1) ((such.sane v.0 h).law v.1)
at P F G r s such ts (Err v) e p = record {
  used = p.used;
  split = p.split;
  plain = p.plain;
  again = λ other e. ap (λ x. and_then x s) (p.again other e);
  completable = completable P F G r s such p.used p.completable;
}

pub sane_bind_where : {A B : Type 0} (P : A → Type 0) (F G : Tokens → Type 0) (r : Reader A) (s : A → Reader B) → Sane F r → Such P F G r s → Sane G (r >>= s)
sane_bind_where P F G r s first such = record { law = λ ts. at P F G r s such ts (r ts) refl (first.law ts) }
