-- Where the one action that a message could allow is not allowed, none is.
use Rattle.std.specs.Prelude.{ℕ}
use Rattle.election_core.specs.Counted.{counted}
use Rattle.election_core.specs.Allowed.{MayGrant, MayLead, MayTake, MayLearn, MayHear, MayConfirm, Allows}
use Rattle.election_core.specs.declared.votes.NodeVote.{NodeVote}
use Rattle.election_core.specs.declared.messages.Message.TheVariants.{Vote, Granted, Adopt, Ship, Ack, Durable, Ping, Pong}
use Rattle.election_core.specs.declared.messages.Action.{Action}
use Rattle.election_core.specs.declared.messages.Action.TheVariants.{Nothing, Promise, Lead, Take, Know, Answer}

pub no_promise : (v : NodeVote) (f g a l : ℕ) → (MayGrant v g a l → ⊥) → (x : Action) → Allows v (Vote f g a l) x → ⊥
no_promise v f g a l h (Promise k to) w = h w.0
no_promise v f g a l h Nothing w = w
no_promise v f g a l h (Lead k) w = w
no_promise v f g a l h (Take k m) w = w
no_promise v f g a l h (Know d) w = w
no_promise v f g a l h (Answer m to) w = w

pub no_lead : (v : NodeVote) (f g to : ℕ) → (MayLead (counted v (Granted f g to)) g to → ⊥) → (x : Action) → Allows v (Granted f g to) x → ⊥
no_lead v f g t h (Lead k) w = h w.0
no_lead v f g t h Nothing w = w
no_lead v f g t h (Promise k to) w = w
no_lead v f g t h (Take k m) w = w
no_lead v f g t h (Know d) w = w
no_lead v f g t h (Answer m to) w = w

pub no_adopt : (v : NodeVote) (f g l : ℕ) → ((m : ℕ) → MayTake v g l m → ⊥) → (x : Action) → Allows v (Adopt f g l) x → ⊥
no_adopt v f g l h (Take k m) w = h m w.0
no_adopt v f g l h Nothing w = w
no_adopt v f g l h (Promise k to) w = w
no_adopt v f g l h (Lead k) w = w
no_adopt v f g l h (Know d) w = w
no_adopt v f g l h (Answer m to) w = w

pub no_ship : (v : NodeVote) (f g l : ℕ) → ((m : ℕ) → MayTake v g l m → ⊥) → (x : Action) → Allows v (Ship f g l) x → ⊥
no_ship v f g l h (Take k m) w = h m w.0
no_ship v f g l h Nothing w = w
no_ship v f g l h (Promise k to) w = w
no_ship v f g l h (Lead k) w = w
no_ship v f g l h (Know d) w = w
no_ship v f g l h (Answer m to) w = w

pub no_learn : (v : NodeVote) (f g l : ℕ) → ((e : ℕ) → MayLearn (counted v (Ack f g l)) g e → ⊥) → (x : Action) → Allows v (Ack f g l) x → ⊥
no_learn v f g l h (Know d) w = h d w
no_learn v f g l h Nothing w = w
no_learn v f g l h (Promise k to) w = w
no_learn v f g l h (Lead k) w = w
no_learn v f g l h (Take k m) w = w
no_learn v f g l h (Answer m to) w = w

pub no_hear : (v : NodeVote) (f g l : ℕ) → ((e : ℕ) → MayHear v g l e → ⊥) → (x : Action) → Allows v (Durable f g l) x → ⊥
no_hear v f g l h (Know d) w = h d w
no_hear v f g l h Nothing w = w
no_hear v f g l h (Promise k to) w = w
no_hear v f g l h (Lead k) w = w
no_hear v f g l h (Take k m) w = w
no_hear v f g l h (Answer m to) w = w

pub no_answer : (v : NodeVote) (f g t d : ℕ) → (MayConfirm v g → ⊥) → (x : Action) → Allows v (Ping f g t d) x → ⊥
no_answer v f g t d h (Answer m to) w = h w.0
no_answer v f g t d h Nothing w = w
no_answer v f g t d h (Promise k to) w = w
no_answer v f g t d h (Lead k) w = w
no_answer v f g t d h (Take k m) w = w
no_answer v f g t d h (Know e) w = w

pub no_pong : (v : NodeVote) (f g t : ℕ) (x : Action) → Allows v (Pong f g t) x → ⊥
no_pong v f g t (Answer m to) w = w
no_pong v f g t Nothing w = w
no_pong v f g t (Promise k to) w = w
no_pong v f g t (Lead k) w = w
no_pong v f g t (Take k m) w = w
no_pong v f g t (Know e) w = w
