-- Own: for requests and answers, `==` tells which are the same, and a clone is the same.
use Rattle.std.specs.Bool.{Decides}
use Rattle.std.specs.Prelude.{true}
use Rattle.std.specs.Cmp.{first_so, second_so}
use Rattle.std.specs.List.{each_same}
use Rattle.std.proofs.Common.{◌≡◌, sym, true≢false, rules}
use denote.Enum.Bare.{same_true}
use Rattle.door.specs.SameValues.{decided, flag_same, text_same, texts_same, actor_same, thing_same, value_same, values_same, value_copied, values_copied}
use Rattle.door.specs.declared.members.Member.{Member}
use Rattle.door.specs.declared.requests.ReachOp.{ReachOp}
use Rattle.door.specs.declared.requests.ReachOp.TheVariants.{Waive, Unwaive, UnsafeWindow, Export, CreateIn, Clone}
use Rattle.door.specs.declared.requests.Request.{Request}
use Rattle.door.specs.declared.requests.Request.TheVariants.{Native, Peek, PeekKeys, Reach}
use Rattle.door.specs.declared.requests.ServeOp.{ServeOp}
use Rattle.door.specs.declared.requests.ServeOp.TheVariants.{Get, Set, Has, Delete, Keys, Proto, Define, Call, New}
use Rattle.door.specs.declared.requests.ErrorKind.{ErrorKind}
use Rattle.door.specs.declared.requests.Answer.{Answer}
use Rattle.door.specs.declared.requests.Answer.TheVariants.{Value as ValueAnswer, List as ListAnswer, Keys as KeysAnswer, Absent, Denied, Throw, Thrown, Stopped}
use Rattle.door.specs.contracts.members.Member.{the_type as member_type}
use Rattle.door.specs.contracts.members.MemberPartialEq.TheImpl.{eq-value as member_eq}
use Rattle.door.specs.contracts.members.MemberEq.TheImpl.Laws.{laws-law as member_law}
use Rattle.door.specs.contracts.requests.ReachOpPartialEq.TheImpl.{eq-value as reach_eq}
use Rattle.door.specs.contracts.requests.ReachOpEq.TheImpl.Laws.{laws-law as reach_law}
use Rattle.door.specs.contracts.requests.ReachOpClone.TheImpl.{by_variants as IsReachClone}
use Rattle.door.specs.contracts.requests.RequestPartialEq.TheImpl.{eq-value as request_eq}
use Rattle.door.specs.contracts.requests.RequestEq.TheImpl.Laws.{laws-law as request_law}
use Rattle.door.specs.contracts.requests.RequestClone.TheImpl.{by_variants as IsRequestClone}
use Rattle.door.specs.contracts.requests.ServeOpPartialEq.TheImpl.{eq-value as serve_eq}
use Rattle.door.specs.contracts.requests.ServeOpEq.TheImpl.Laws.{laws-law as serve_law}
use Rattle.door.specs.contracts.requests.ServeOpClone.TheImpl.{by_variants as IsServeClone}
use Rattle.door.specs.contracts.requests.ErrorKindPartialEq.TheImpl.{eq-value as error_eq}
use Rattle.door.specs.contracts.requests.ErrorKindClone.TheImpl.{by_variants as IsErrorClone}
use Rattle.door.specs.contracts.requests.AnswerPartialEq.TheImpl.{eq-value as answer_eq}
use Rattle.door.specs.contracts.requests.AnswerEq.TheImpl.Laws.{laws-law as answer_law}
use Rattle.door.specs.contracts.requests.AnswerClone.TheImpl.{by_variants as IsAnswerClone}

-- equal members are the same
pub member_same : (x y : Member) → member_eq.it x y ≡ true → x ≡ y
member_same x y = same_true member_type tt x y

-- `==` on members says whether they are the same
pub member_Decides : (x y : Member) → Decides (member_eq.it x y) (x ≡ y)
member_Decides = decided member_eq.it member_law member_same

-- what is equal has equal parts, and these are the same
pub ruleset same_parts = (rules, first_so, second_so, flag_same, text_same, texts_same, actor_same, thing_same, member_same, value_same, values_same)

-- equal reaches are the same
pub reach_same : (x y : ReachOp) → reach_eq.it x y ≡ true → x ≡ y
reach_same (Waive a) (Waive b) h = search same_parts
reach_same (Unwaive a) (Unwaive b) h = search same_parts
reach_same UnsafeWindow UnsafeWindow h = search same_parts
reach_same (Export a b c) (Export d e f) h = search same_parts
reach_same (CreateIn a b) (CreateIn c d) h = search same_parts
reach_same (Clone a b c p q) (Clone d e f r s) h = search same_parts
reach_same x y h = absurd (true≢false (sym h))

-- `==` on reaches says whether they are the same
pub reach_Decides : (x y : ReachOp) → Decides (reach_eq.it x y) (x ≡ y)
reach_Decides = decided reach_eq.it reach_law reach_same

-- equal requests are the same
pub request_same : (x y : Request) → request_eq.it x y ≡ true → x ≡ y
request_same (Native m t xs) (Native n u ys) h = search same_parts
request_same (Peek i p s) (Peek j q t) h = search same_parts
request_same (PeekKeys i p) (PeekKeys j q) h = search same_parts
request_same (Reach a) (Reach b) h = search (same_parts, reach_same)
request_same x y h = absurd (true≢false (sym h))

-- `==` on requests says whether they are the same
pub request_Decides : (x y : Request) → Decides (request_eq.it x y) (x ≡ y)
request_Decides = decided request_eq.it request_law request_same

-- equal operations are the same
pub serve_same : (x y : ServeOp) → serve_eq.it x y ≡ true → x ≡ y
serve_same (Get s) (Get t) h = search same_parts
serve_same (Set s a) (Set t b) h = search same_parts
serve_same (Has s) (Has t) h = search same_parts
serve_same (Delete s) (Delete t) h = search same_parts
serve_same Keys Keys h = search same_parts
serve_same Proto Proto h = search same_parts
serve_same (Define s a) (Define t b) h = search same_parts
serve_same (Call a xs) (Call b ys) h = search same_parts
serve_same (New xs) (New ys) h = search same_parts
serve_same x y h = absurd (true≢false (sym h))

-- `==` on operations says whether they are the same
pub serve_Decides : (x y : ServeOp) → Decides (serve_eq.it x y) (x ≡ y)
serve_Decides = decided serve_eq.it serve_law serve_same

-- `==` on errors says whether they are the same
pub error_Decides : (x y : ErrorKind) → Decides (error_eq.it x y) (x ≡ y)
error_Decides x y = search rules

-- equal errors are the same
pub error_same : (x y : ErrorKind) → error_eq.it x y ≡ true → x ≡ y
error_same x y = (error_Decides x y).0

-- equal answers are the same
pub answer_same : (x y : Answer) → answer_eq.it x y ≡ true → x ≡ y
answer_same (ValueAnswer a) (ValueAnswer b) h = search same_parts
answer_same (ListAnswer xs) (ListAnswer ys) h = search same_parts
answer_same (KeysAnswer xs) (KeysAnswer ys) h = search same_parts
answer_same Absent Absent h = search same_parts
answer_same Denied Denied h = search same_parts
answer_same (Throw a) (Throw b) h = search (same_parts, error_same)
answer_same (Thrown a) (Thrown b) h = search same_parts
answer_same Stopped Stopped h = search same_parts
answer_same x y h = absurd (true≢false (sym h))

-- `==` on answers says whether they are the same
pub answer_Decides : (x y : Answer) → Decides (answer_eq.it x y) (x ≡ y)
answer_Decides = decided answer_eq.it answer_law answer_same

-- the parts of a clone are clones, and these are the same
pub ruleset copied_parts = (rules, each_same, value_copied, values_copied)

-- a clone of a reach is the same
pub reach_copied : (x y : ReachOp) → IsReachClone x y → y ≡ x
reach_copied (Waive a) (Waive b) h = search copied_parts
reach_copied (Unwaive a) (Unwaive b) h = search copied_parts
reach_copied UnsafeWindow UnsafeWindow h = search copied_parts
reach_copied (Export a b c) (Export d e f) h = search copied_parts
reach_copied (CreateIn a b) (CreateIn c d) h = search copied_parts
reach_copied (Clone a b c p q) (Clone d e f r s) h = search copied_parts
reach_copied x y h = absurd h

-- a clone of a request is the same
pub request_copied : (x y : Request) → IsRequestClone x y → y ≡ x
request_copied (Native m t xs) (Native n u ys) h = search copied_parts
request_copied (Peek i p s) (Peek j q t) h = search copied_parts
request_copied (PeekKeys i p) (PeekKeys j q) h = search copied_parts
request_copied (Reach a) (Reach b) h = search (copied_parts, reach_copied)
request_copied x y h = absurd h

-- a clone of an operation is the same
pub serve_copied : (x y : ServeOp) → IsServeClone x y → y ≡ x
serve_copied (Get s) (Get t) h = search copied_parts
serve_copied (Set s a) (Set t b) h = search copied_parts
serve_copied (Has s) (Has t) h = search copied_parts
serve_copied (Delete s) (Delete t) h = search copied_parts
serve_copied Keys Keys h = search copied_parts
serve_copied Proto Proto h = search copied_parts
serve_copied (Define s a) (Define t b) h = search copied_parts
serve_copied (Call a xs) (Call b ys) h = search copied_parts
serve_copied (New xs) (New ys) h = search copied_parts
serve_copied x y h = absurd h

-- a clone of an error is the same
pub error_copied : (x y : ErrorKind) → IsErrorClone x y → y ≡ x
error_copied x y h = search rules

-- a clone of an answer is the same
pub answer_copied : (x y : Answer) → IsAnswerClone x y → y ≡ x
answer_copied (ValueAnswer a) (ValueAnswer b) h = search copied_parts
answer_copied (ListAnswer xs) (ListAnswer ys) h = search copied_parts
answer_copied (KeysAnswer xs) (KeysAnswer ys) h = search copied_parts
answer_copied Absent Absent h = search copied_parts
answer_copied Denied Denied h = search copied_parts
answer_copied (Throw a) (Throw b) h = search (copied_parts, error_copied)
answer_copied (Thrown a) (Thrown b) h = search copied_parts
answer_copied Stopped Stopped h = search copied_parts
answer_copied x y h = absurd h
