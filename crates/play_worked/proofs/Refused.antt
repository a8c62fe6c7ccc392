-- Reports that are wrong in one line are not what `play` writes.
use Rattle.std.proofs.Common.{◌≡◌, ℕ, suc, ◌+◌, List, [], ◌∷◌, ◌++◌, length, refl, sym, ap, subst, arith, ◌∙◌, append-nil, codes, Some, true, false, ◌⊎◌, inl, inr}
use Rattle.std.proofs.lemmas.Bool.{true≢false}
use Rattle.std.specs.Prelude.{take}
use Rattle.cdb_values.specs.Rows.{Rows}
use Rattle.cdb_values.specs.declared.replies.Reply.{Reply}
use Rattle.cdb_values.specs.declared.replies.Reply.TheVariants as reply
use Rattle.cdb_values.specs.declared.rows.Level.{Level}
use Rattle.script_form.specs.declared.scripts.Moment.TheVariants as moment
use Rattle.session_language.specs.Each.{EachAfter, StandsIn}
use Rattle.report_laws.proofs.PieceLaws.{all_at}
use Rattle.report_laws.specs.History.{view_of}
use Rattle.report_text.specs.declared.reports.Line.{Line}
use Rattle.report_text.specs.declared.reports.Report.{Report}
use Rattle.report_worked.specs.Small.{from_log, from_nothing}
use Rattle.node_reports.specs.Order.{IsFault, saying}
use Rattle.node_reports.specs.Piece.{replies_in}
use Rattle.node_stories.specs.StoriesWrong.{stops_a_replica, stops_a_replica_report}
use Rattle.play_order.specs.Deeds.{Deed}
use Rattle.play_order.specs.Deeds.Deed.{Sends}
use Rattle.play_order.specs.Openings.{Finding}
use Rattle.play_order.specs.Peers.{Fall, Peers}
use Rattle.play_order.specs.Peers.Switch.{Fell}
use Rattle.play_order.specs.Played.{InLedTurns, IsPlayedOver, SendsCommit, SendsNothing, Tell, are_at_rows, behind_deeds, faults_in, behind_opening, switches}
use Rattle.play_order.specs.Tail.{HasTail}
use Rattle.play_worked.specs.Plays.{no_lines, reads_go_on, tail_only}
use Rattle.play_worked.specs.Stores.{empty_stores, later_and_shorter, unfit}
use Rattle.play_worked.proofs.StoreLemmas.{some_none}

no_front : (xs ys : List Line) → [] ≡ xs ++ ys → xs ≡ []
no_front [] ys is = refl
no_front (x ∷ xs) ys is = absurd (cc)

no_falls : (fs : List Fall) (more told : ℕ) → length fs + more ≡ told → told ≡ 0 → fs ≡ []
no_falls [] more told is none = refl
no_falls (f ∷ fs) more told is none = absurd (let sum : suc (length fs) + more ≡ told = is in omega (arith, sum, none))

-- where no line is told, no store fails
none_told : (first rest : List Line) → [] ≡ first ++ rest → faults_in (switches first) ≡ 0
none_told first rest is = ap (λ (ls : List Line). faults_in (switches ls)) (no_front first rest is)

-- of a script without lines the nodes behind the opening tell the tail
ends_so : (k : ℕ) (rows : Rows) (stores : List Finding) (report : Report) → report.lines ≡ [] → IsPlayedOver (from_log no_lines k rows) stores report → HasTail 3 (behind_opening 3 stores []) report
ends_so k rows stores report none played =
    subst (λ (fs : List Fall). HasTail 3 (behind_opening 3 stores fs) report) (no_falls played.falls _ _ played.tell.as_many (none_told played.first played.rest (sym none ∙ played.lines_are))) played.order.2.tail

-- the first master adopted an empty log, so the schema's entry is of this run
pub based_on_its_own : (rows : Rows) → IsPlayedOver (from_log no_lines 1 rows) (empty_stores 3) (tail_only (Some 1) [] 1) → ⊥
based_on_its_own rows played = some_none 1 (ends_so 1 rows (empty_stores 3) (tail_only (Some 1) [] 1) refl played).base

-- the longest log is not the best one
pub longest_wins : (rows : Rows) → IsPlayedOver (from_log no_lines 2 rows) later_and_shorter (tail_only (Some 2) [] 2) → ⊥
longest_wins rows played = let no_such : 2 ≡ 1 = (ends_so 2 rows later_and_shorter (tail_only (Some 2) [] 2) refl played).end in omega (arith, no_such)

-- stores that do not fit have no report
pub unfit_reported : (report : Report) → IsPlayedOver (from_nothing reads_go_on) unfit report → ⊥
unfit_reported report played = some_none 1 played.may.fit.1

-- the report of an arm that stops a node which does not lead begins with a session's line
no_first : (first rest : List Line) → stops_a_replica_report.lines ≡ first ++ rest → EachAfter (IsFault stops_a_replica) [] first → first ≡ []
no_first [] rest is each = refl
no_first (x ∷ xs) rest is each = absurd (subst (λ (l : Line). IsFault stops_a_replica [] l) (sym (ap head is)) each.0)
  where
    head : List Line → Line
    head [] = x
    head (l ∷ ls) = l

-- no want of memory is told
abbrev IsNoWant : Reply → Type 0
IsNoWant reply.NoMemory = ⊥
IsNoWant _ = Unit {0}

never_wanting : (mine : List Line) → stops_a_replica_report.lines ≡ mine → StandsIn (replies_in (codes "b") mine) reply.NoMemory → ⊥
never_wanting mine is stands = all_at IsNoWant (replies_in (codes "b") stops_a_replica_report.lines) reply.NoMemory (tt, (tt, (tt, tt))) (subst (λ (ls : List Line). StandsIn (replies_in (codes "b") ls) reply.NoMemory) (sym is) stands)

-- the nodes at the session's line
abbrev at_insert : Peers
at_insert = behind_deeds 3 [] [] (behind_opening 3 (empty_stores 3) [])

another_node : Fell 1 false ∷ [] ≡ Fell 2 false ∷ [] → ⊥
another_node is = let no_such : Fell 1 false ∷ [] ≡ Fell 2 false ∷ [] = is in cc

-- of a commit that is sent they tell that node 1 is stopped
told_by_commit : (begin : ℕ) (level : Level) (deeds : List Deed) (falls : List Fall) (p : Peers) (mine : List Line) → stops_a_replica_report.lines ≡ mine → p ≡ at_insert →
    deeds ≡ Sends (record { session = codes "b"; txn = 1; begin = begin; level = level }) 4 (moment.Append ∷ []) ∷ [] → Tell (behind_deeds 3 deeds falls p) falls 0 mine → ⊥
told_by_commit begin level deeds falls p mine is at sent tell = another_node (sym told ∙ (tell.told ∙ ap switches (sym is)))
  where
    none : falls ≡ []
    none = no_falls falls 0 _ tell.as_many (ap (λ (ls : List Line). faults_in (switches ls)) (sym is))

    told : (behind_deeds 3 deeds falls p).told ≡ Fell 1 false ∷ []
    told = ap (λ (ds : List Deed). (behind_deeds 3 ds falls p).told) sent ∙
        (ap (λ (fs : List Fall). (behind_deeds 3 (Sends (record { session = codes "b"; txn = 1; begin = begin; level = level }) 4 (moment.Append ∷ []) ∷ []) fs p).told) none
        ∙ ap (λ (q : Peers). (behind_deeds 3 (Sends (record { session = codes "b"; txn = 1; begin = begin; level = level }) 4 (moment.Append ∷ []) ∷ []) [] q).told) at)

-- nor is nothing sent: then each stop is behind a row
stopped_at_no_row : (mine : List Line) → stops_a_replica_report.lines ≡ mine → are_at_rows (moment.Append ∷ []) (codes "b") [] mine ≡ true → ⊥
stopped_at_no_row mine is rows = true≢false (sym rows ∙ ap (λ (ls : List Line). are_at_rows (moment.Append ∷ []) (codes "b") [] ls) (sym is))

-- an arm of the append stops the node that leads, and no other
pub stops_a_replica_is_not_played : IsPlayedOver (from_nothing stops_a_replica) (empty_stores 3) stops_a_replica_report → ⊥
stops_a_replica_is_not_played played = go played.first (no_first played.first played.rest played.lines_are played.go_down) played.lines_are played.falls played.tell.as_many played.order
  where
    go : (first : List Line) → first ≡ [] → stops_a_replica_report.lines ≡ first ++ played.rest → (falls : List Fall) → length falls + 0 ≡ faults_in (switches first) →
        InLedTurns (from_nothing stops_a_replica) (view_of (from_nothing stops_a_replica) stops_a_replica_report.entries) (empty_stores 3) stops_a_replica_report [] first played.opening (behind_opening 3 (empty_stores 3) falls) stops_a_replica.body played.rest played.later → ⊥
    go first none lines_are falls many (mine, others, added, later, parts, entries, turn, deeds, own, are, tell, (mine', others', added', later', parts', entries', turn', deeds', own', are', tell', ends)) =
        which are'
      where
        all : stops_a_replica_report.lines ≡ mine'
        all = lines_are ∙ (ap (λ (ls : List Line). ls ++ played.rest) none ∙ (parts ∙ (ap (λ (ls : List Line). ls ++ others) turn.0 ∙ (parts' ∙ (ap (λ (ls : List Line). mine' ++ ls) ends.0 ∙ append-nil mine')))))

        at : behind_deeds 3 deeds own (behind_opening 3 (empty_stores 3) falls) ≡ at_insert
        at = ap (λ (ds : List Deed). behind_deeds 3 ds own (behind_opening 3 (empty_stores 3) falls)) are
            ∙ (ap (λ (fs : List Fall). behind_deeds 3 [] fs (behind_opening 3 (empty_stores 3) falls)) (no_falls own 0 _ tell.as_many (ap (λ (ls : List Line). faults_in (switches ls)) turn.0))
            ∙ ap (λ (fs : List Fall). behind_deeds 3 [] [] (behind_opening 3 (empty_stores 3) fs)) (no_falls falls 0 _ many (ap (λ (ls : List Line). faults_in (switches ls)) none)))

        which : SendsNothing (saying (from_nothing stops_a_replica) (view_of (from_nothing stops_a_replica) stops_a_replica_report.entries) (take 1 stops_a_replica.body) (first ++ mine) (codes "b") (codes "insert into t values(1, 10)")) mine' deeds'
            ⊎ SendsCommit (saying (from_nothing stops_a_replica) (view_of (from_nothing stops_a_replica) stops_a_replica_report.entries) (take 1 stops_a_replica.body) (first ++ mine) (codes "b") (codes "insert into t values(1, 10)")) mine' deeds' → ⊥
        which (inl nothing) = stopped_at_no_row mine' all nothing.rows
        which (inr sent) = told_by_commit sent.begin sent.level deeds' own' _ mine' all at (sent.is ∙ ap (λ (k : ℕ). Sends (record { session = codes "b"; txn = 1; begin = sent.begin; level = sent.level }) k (moment.Append ∷ []) ∷ []) (four sent.as_often)) tell'
          where
            four : (sent.often ≡ 4) ⊎ StandsIn (replies_in (codes "b") mine') reply.NoMemory → sent.often ≡ 4
            four (inl is) = is
            four (inr wanting) = absurd (never_wanting mine' all wanting)
