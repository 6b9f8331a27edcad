use Rattle.std.proofs.Common.{◌≡◌, ◌∙◌, ◌&&◌, ◌||◌, ap, refl, sym, true≢false, inl, inr, ℕ, Bool, true, false, not, List, [], ◌∷◌, codes, take, replicate, bytes_eq}
use Rattle.std.specs.List.{list_all}
use Rattle.std.proofs.lemmas.Slice.Eq.{bytes_eq-Decides}
use Rattle.std.specs.Char.{encode_utf8}
use Rattle.std.specs.Fmt.{digits}
use Rattle.dom_semantics.specs.Forest.{DEPTH_LIMIT, NODE_LIMIT}
use Rattle.dom_semantics.specs.Listeners.{LISTENER_LIMIT}
use Rattle.dom_semantics.specs.Timers.{TIMER_LIMIT}
use Rattle.dom_semantics.specs.Stage.{NESTED_DISPATCH_LIMIT, DISPATCH_LIMIT}
use Rattle.dom_semantics.specs.StageOf.{course_from}
use Rattle.solo_model.specs.Nesting.{progress_from}
use Rattle.solo_model.specs.Tasks.{TASK_LIMIT}
use Rattle.door.specs.declared.requests.Answer.{Answer}
use Rattle.door.specs.declared.requests.Answer.TheVariants.{Value as ValueAnswer, Throw}
use Rattle.door.specs.declared.requests.ErrorKind.TheVariants.{Crossing}
use Rattle.door.specs.declared.requests.ReachOp.TheVariants.{UnsafeWindow}
use Rattle.door.specs.declared.values.Shape.TheVariants.{Plain, Array}
use Rattle.door.specs.declared.values.Value.TheVariants.{Thing, Cell}
use Rattle.dom_semantics.specs.Crossings.{is_in}
use Rattle.dom_semantics.specs.Things.{the_window}
use Rattle.solo_model.specs.RunFacts.{actor}
use Rattle.solo_model.specs.WaysOut.{IsWayOutOrStopped, IsCloneOf, PathStep, ToKey, ToPlace, faults_left, is_step_in, path_of, refused_at}
use Rattle.solo_model.proofs.facts.ways_out_are_computed.Goals as goal

abbrev is_value : Answer → Bool
is_value (ValueAnswer v) = true
is_value answer = false

abbrev is_plain_thing : Answer → Bool
is_plain_thing (ValueAnswer (Thing thing)) = true
is_plain_thing answer = false

abbrev is_waived_value : Answer → Bool
is_waived_value (ValueAnswer (Cell owner place shape waived)) = waived
is_waived_value answer = false

not_plain_thing : IsWayOutOrStopped (actor 3) UnsafeWindow (ValueAnswer (Thing the_window)) → ⊥
not_plain_thing (inl h) = true≢false (ap is_plain_thing h)
not_plain_thing (inr h) = true≢false (ap is_plain_thing h)

not_own : IsCloneOf Plain false false (ValueAnswer (Cell (actor 2) 301 Plain false)) → ⊥
not_own (inl h) = true≢false (sym (ap is_waived_value h.1))
not_own (inr h) = true≢false (ap is_value h.same)

-- ---- refusals that no fault tells

abbrev refused : List ℕ → Answer
refused text = Throw (Crossing text)

abbrev said : Answer → List ℕ
said (Throw (Crossing text)) = text
said answer = []

-- the first k scalars of a text are these
abbrev begins : ℕ → List ℕ → List ℕ → Bool
begins k front text = bytes_eq front (take k text)

-- the refusal by this fault begins in another way
abbrev is_other : ℕ → (front path fault : List ℕ) → Bool
is_other k front path fault = not (begins k front (said (refused_at fault path)))

both : (a b : Bool) → (a && b) ≡ true → (a ≡ true) × (b ≡ true)
both true b h = (refl, h)
both false b h = absurd (true≢false (sym h))

chosen : (test : List ℕ → Bool) (f t : List ℕ) (same rest : Bool) → (same ≡ true → f ≡ t) → (same || rest) ≡ true → test t ≡ true → (rest ≡ true → test f ≡ true)
    → test f ≡ true
chosen test f t true rest equal h p later = ap test (equal refl) ∙ p
chosen test f t false rest equal h p later = later h

-- what holds of each of these texts holds of one of them
one_of : (test : List ℕ → Bool) (f : List ℕ) (texts : List (List ℕ)) → is_in texts f ≡ true → list_all test texts ≡ true → test f ≡ true
one_of test f [] h all = absurd (true≢false (sym h))
one_of test f (t ∷ ts) h all =
    let parts : (test t ≡ true) × (list_all test ts ≡ true) = both (test t) (list_all test ts) all in
    chosen test f t (bytes_eq f t) (is_in ts f) (bytes_eq-Decides f t).0 h parts.0 (λ later. one_of test f ts later parts.1)

not_refused : (k : ℕ) (front : List ℕ) (answer : Answer) (faults : List (List ℕ)) (fault path : List ℕ) → begins k front (said answer) ≡ true
    → list_all (is_other k front path) faults ≡ true → is_in faults fault ≡ true → answer ≡ refused_at fault path → ⊥
not_refused k front answer faults fault path is none known same =
    true≢false (sym (ap not (sym is ∙ ap (λ a. begins k front (said a)) same) ∙ one_of (is_other k front path) fault faults known none))

-- the path into an array begins with a place, and that into a plain object with a key
of_place : (first : PathStep) (later : List PathStep) (fault : List ℕ) → is_step_in Array first ≡ true → is_in (faults_left false false) fault ≡ true
    → refused (codes "IsThing at .w") ≡ refused_at fault (path_of (first ∷ later)) → ⊥
unfolding encode_utf8
of_place (ToKey key) later fault within known same = true≢false (sym within)
of_place (ToPlace n) later fault within known same =
    not_refused 12 (codes "IsThing at .") (refused (codes "IsThing at .w")) (faults_left false false) fault (path_of (ToPlace n ∷ later)) refl refl known same

no_key_in_array : IsCloneOf Array false false (refused (codes "IsThing at .w")) → ⊥
unfolding encode_utf8
no_key_in_array (inl h) = true≢false (sym (ap is_value h.1))
no_key_in_array (inr h) = of_place h.first h.later h.fault h.within h.known h.same

of_key : (first : PathStep) (later : List PathStep) (fault : List ℕ) → is_step_in Plain first ≡ true → is_in (faults_left false false) fault ≡ true
    → refused (codes "IsThing at [1]") ≡ refused_at fault (path_of (first ∷ later)) → ⊥
unfolding encode_utf8
of_key (ToPlace n) later fault within known same = true≢false (sym within)
of_key (ToKey key) later fault within known same =
    not_refused 12 (codes "IsThing at [") (refused (codes "IsThing at [1]")) (faults_left false false) fault (path_of (ToKey key ∷ later)) refl refl known same

no_place_in_plain : IsCloneOf Plain false false (refused (codes "IsThing at [1]")) → ⊥
unfolding encode_utf8
no_place_in_plain (inl h) = true≢false (sym (ap is_value h.1))
no_place_in_plain (inr h) = of_key h.first h.later h.fault h.within h.known h.same

-- a text that no fault of a plain object has
no_fault : (functions reflectors : Bool) (k : ℕ) (front text : List ℕ) → begins k front text ≡ true
    → ((path : List ℕ) → list_all (is_other k front path) (faults_left functions reflectors) ≡ true) → IsCloneOf Plain functions reflectors (refused text) → ⊥
no_fault functions reflectors k front text is none (inl h) = true≢false (sym (ap is_value h.1))
no_fault functions reflectors k front text is none (inr h) =
    not_refused k front (refused text) (faults_left functions reflectors) h.fault (path_of (h.first ∷ h.later)) is (none (path_of (h.first ∷ h.later))) h.known h.same

functions_allowed : IsCloneOf Plain true false (refused (codes "IsFunction at .f")) → ⊥
unfolding encode_utf8
functions_allowed h = no_fault true false 4 (codes "IsFu") (codes "IsFunction at .f") refl (λ path. refl) h

things_allowed : IsCloneOf Plain false true (refused (codes "IsThing at .w")) → ⊥
unfolding encode_utf8
things_allowed h = no_fault false true 4 (codes "IsTh") (codes "IsThing at .w") refl (λ path. refl) h

no_such_fault : IsCloneOf Plain false false (refused (codes "NotCallable at .f")) → ⊥
unfolding encode_utf8
no_such_fault h = no_fault false false 1 (codes "N") (codes "NotCallable at .f") refl (λ path. refl) h

no_path : IsCloneOf Plain false false (refused (codes "IsThing")) → ⊥
unfolding encode_utf8
no_path h = no_fault false false 8 (codes "IsThing") (codes "IsThing") refl (λ path. refl) h

scope_given : IsCloneOf Plain false false (refused (codes "ScopeDenied")) → ⊥
unfolding encode_utf8
scope_given h = no_fault false false 1 (codes "S") (codes "ScopeDenied") refl (λ path. refl) h

pub returns : goal.returns
unfolding encode_utf8 DEPTH_LIMIT NODE_LIMIT LISTENER_LIMIT TIMER_LIMIT NESTED_DISPATCH_LIMIT DISPATCH_LIMIT course_from progress_from TASK_LIMIT digits
returns c = record {
  unsafe_window = record { possible = refl; answered = (refl, inr refl); names = refl; tells = refl };
  not_granted = λ h. true≢false (sym h.possible);
  not_waived = λ h. not_plain_thing h.answered.1;
  not_for_page = λ h. true≢false (sym h.possible);
  not_of_own = λ h. true≢false (sym h.answered.0);
  xray_again = refl;
  not_callable_first = refl;
  not_callable = refl;
  not_own = refl;
  no_scope = refl;
  exported = (400, refl);
  exported_to_thing = (400, refl);
  kept_in = λ h. true≢false (sym (ap is_waived_value h.1));
  created = (400, refl);
  primitive = refl;
  function = refl;
  function_cloned = (400, refl);
  function_refused = λ h. true≢false (ap is_value h);
  thing = refl;
  thing_wrapped = refl;
  waived_thing = refl;
  own_error = refl;
  foreign = refl;
  copied = inl (400, refl);
  inside = inr (record { fault = codes "IsFunction"; first = ToKey (codes "a"); later = ToPlace 1 ∷ []; within = refl; known = refl; same = refl });
  in_array = inr (record { fault = codes "IsThing"; first = ToPlace 12; later = ToKey (codes "w") ∷ []; within = refl; known = refl; same = refl });
  no_key_in_array = no_key_in_array;
  no_place_in_plain = no_place_in_plain;
  functions_allowed = functions_allowed;
  no_such_fault = no_such_fault;
  no_path = no_path;
  cut_path = inr (record { fault = codes "IsThing"; first = ToKey (replicate 500 97); later = []; within = refl; known = refl; same = refl });
  things_allowed = things_allowed;
  scope_first = refl;
  scope_given = scope_given;
  not_created = refl;
  waives_cell = record { possible = refl; answered = (refl, inr refl); names = refl; tells = refl };
  not_twice = λ h. true≢false (sym h.answered.0);
  own_again = refl;
  text_again = refl;
  stopped = record { possible = refl; answered = (refl, inl refl); names = refl; tells = refl };
  not_plain = not_own;
  opened = refl;
  by_page = refl;
  where_refused = refl;
  entered = refl;
}
