-- A route as an answer.
use Rattle.std.proofs.Common.{◌≡◌, ℕ, ◌<◌, ◌≤◌, ◌↔◌, List, length, Contains, Option, None, Some, Result, Ok, Err, refl, subst, sym, ap, ◌∙◌, arith}
use Rattle.std.specs.Prelude.{IsErrAnd, ok_or}
use Rattle.fab_model.specs.declared.rows.Place.{Place}
use Rattle.fab_model.specs.Topology.{Topology, lids_of, place_of}
use Rattle.fab_model.specs.WellFormed.{IsFabric}
use Rattle.fab_tables.specs.declared.end.End.{End}
use Rattle.fab_tables.specs.declared.end.End.TheVariants.{Delivered, NoEntry, DeadPort, Astray, Loop}
use Rattle.fab_tables.specs.declared.plan.Plan.{Plan}
use Rattle.fab_tables.specs.Route.{route}
use Rattle.fab_tables.proofs.Paths.FallingRoutes.{place_below}
use Rattle.fab_tables.proofs.Joined.Lids.{connected_in_use}
use Rattle.fab_report.specs.Shown.{shown_text}
use Rattle.fab_top.specs.declared.outcome.Outcome.{Outcome}
use Rattle.fab_top.specs.declared.outcome.Stop.{Stop}
use Rattle.fab_top.specs.Answer.{Answer}
use Rattle.fab_top.specs.Answers.{shown_answer, IsShown, IsShowAnswer}
use Rattle.fab_top.specs.FaultTexts.{unknown_lid_text}
use Rattle.fab_top.specs.Files.{known_place}
use Rattle.fab_top.specs.Headline.{Done, IsDoneIfDelivered, ShowsTruly}
use Rattle.fab_top.specs.Outcomes.{FindsRightly, answer_of, CanBePut}
use Rattle.fab_top.specs.Seen.{After}
use Rattle.fab_top.specs.Taking.{IsTaken}
use Rattle.fab_top.proofs.Steps.AfterFiles.{HasRightAnswer, after_weaker, after_one, after_small, after_exists}
use Rattle.fab_top.proofs.Steps.Concluding.{found_at_most_1, name_taken, name_stops}

-- ---- the answer

shown_is_small : (t : Topology) (s lid : ℕ) (text : List ℕ) (end : End) → (shown_answer t s lid text end).status ≤ 1
shown_is_small t s lid text Delivered = omega arith
shown_is_small t s lid text NoEntry = omega arith
shown_is_small t s lid text DeadPort = omega arith
shown_is_small t s lid text Astray = omega arith
shown_is_small t s lid text Loop = omega arith

pub is_small : (t : Topology) (p : Plan) (lid : ℕ) (from : Place) (a : Answer) → IsShown t p lid from a → a.status ≤ 1
is_small t p lid from a is =
    let P : Answer → Type 0 = λ b. b.status ≤ 1 in
    subst P (sym is) (shown_is_small t from.switch.0 lid (shown_text t p from lid) (route t p.tables from.switch.0 lid).end)

done_if : (t : Topology) (s lid : ℕ) (text : List ℕ) (end : End) → Done (shown_answer t s lid text end) ↔ (end ≡ Delivered)
done_if t s lid text Delivered = (λ e. refl, λ e. refl)
done_if t s lid text NoEntry = (λ e. cc, λ e. cc)
done_if t s lid text DeadPort = (λ e. cc, λ e. cc)
done_if t s lid text Astray = (λ e. cc, λ e. cc)
done_if t s lid text Loop = (λ e. cc, λ e. cc)

pub shown_keeps : (t : Topology) (p : Plan) (lid : ℕ) (from : Place) (a : Answer) → IsShown t p lid from a → IsDoneIfDelivered t p lid from a
shown_keeps t p lid from a is =
    let end : End = (route t p.tables from.switch.0 lid).end in
    let P : Answer → Type 0 = λ b. Done b ↔ (end ≡ Delivered) in
    subst P (sym is) (done_if t from.switch.0 lid (shown_text t p from lid) end)

-- ---- what is found

places_known : (t : Topology) (lid : ℕ) (place : Place) (found : Option Place) → place_of t lid ≡ found → ok_or found (unknown_lid_text lid) ≡ Ok place → place_of t lid ≡ Some place
places_known t lid place None e known = cc
places_known t lid place (Some other) e known = let same : other ≡ place = cc in e ∙ ap (λ (x : Place). Some x) same

pub is_place : (t : Topology) (lid : ℕ) (place : Place) → known_place t lid ≡ Ok place → place_of t lid ≡ Some place
is_place t lid place known = places_known t lid place (place_of t lid) refl known

pub is_below : (t : Topology) (lid : ℕ) (place : Place) → IsFabric t → known_place t lid ≡ Ok place → place.switch.0 < length t.switches
is_below t lid place fabric known = place_below t fabric.rows lid place (is_place t lid place known)

pub is_in_use : (t : Topology) (lid : ℕ) (place : Place) → known_place t lid ≡ Ok place → Contains (lids_of t) lid
is_in_use t lid place known = connected_in_use t place.switch.0 lid (place, is_place t lid place known, (0, refl))

pub from_stops : (t : Topology) (p : Plan) (from to : ℕ) (stop : Stop) (result : Result Outcome Stop) → IsTaken {X = Place} (Err stop) (known_place t from) → IsErrAnd result (λ handed. handed ≡ stop) →
    FindsRightly (IsShowAnswer from to t p) (ShowsTruly from to t p) result
from_stops t p from to stop result taken hands =
    name_stops (known_place t from) (λ place. After (known_place t to) (λ far. IsShown t p to place)) (λ place. After (known_place t to) (λ far. IsDoneIfDelivered t p to place)) stop result taken hands

pub to_stops : (t : Topology) (p : Plan) (from to : ℕ) (place : Place) (stop : Stop) (result : Result Outcome Stop) → known_place t from ≡ Ok place → IsTaken {X = Place} (Err stop) (known_place t to) →
    IsErrAnd result (λ handed. handed ≡ stop) → FindsRightly (IsShowAnswer from to t p) (ShowsTruly from to t p) result
to_stops t p from to place stop result first taken hands =
    name_taken (known_place t from) (λ place. After (known_place t to) (λ far. IsShown t p to place)) (λ place. After (known_place t to) (λ far. IsDoneIfDelivered t p to place)) place result first
    (name_stops (known_place t to) (λ far. IsShown t p to place) (λ far. IsDoneIfDelivered t p to place) stop result taken hands)

pub route_found : (t : Topology) (p : Plan) (from to : ℕ) (place far : Place) (lines text : List ℕ) (end : End) (outcome : Outcome) → known_place t from ≡ Ok place → known_place t to ≡ Ok far →
    lines ≡ shown_text t p place to → text ≡ lines → end ≡ (route t p.tables place.switch.0 to).end → answer_of outcome ≡ shown_answer t place.switch.0 to text end → CanBePut outcome →
    FindsRightly (IsShowAnswer from to t p) (ShowsTruly from to t p) (Ok outcome)
route_found t p from to place far lines text end outcome first second are same ends answer put =
    let right : IsShown t p to place (answer_of outcome) =
    answer ∙ ap (λ (l : List ℕ). shown_answer t place.switch.0 to l end) (same ∙ are) ∙ ap (shown_answer t place.switch.0 to (shown_text t p place to)) ends in
    name_taken (known_place t from) (λ place. After (known_place t to) (λ far. IsShown t p to place)) (λ place. After (known_place t to) (λ far. IsDoneIfDelivered t p to place)) place (Ok outcome) first
    (name_taken (known_place t to) (λ far. IsShown t p to place) (λ far. IsDoneIfDelivered t p to place) far (Ok outcome) second (record {
      is = right;
      headline = shown_keeps t p to place (answer_of outcome) right;
      status = found_at_most_1 (answer_of outcome).status (is_small t p to place (answer_of outcome) right);
      can_be_put = put;
    }))

-- ---- the laws

pub one_show : (t : Topology) (p : Plan) (from to : ℕ) (a b : Answer) → IsShowAnswer from to t p a → IsShowAnswer from to t p b → a ≡ b
one_show t p from to a b first second =
    after_one (known_place t from) (λ place. After (known_place t to) (λ far. IsShown t p to place)) a b
    (λ place known. after_one (known_place t to) (λ far. IsShown t p to place) a b (λ far there x y. x ∙ sym y)) first second

pub show_keeps : (t : Topology) (p : Plan) (from to : ℕ) (a : Answer) → IsShowAnswer from to t p a → ShowsTruly from to t p a
show_keeps t p from to a is =
    after_weaker (known_place t from) (λ place. After (known_place t to) (λ far. IsShown t p to place)) (λ place. After (known_place t to) (λ far. IsDoneIfDelivered t p to place)) a
    (λ place known. after_weaker (known_place t to) (λ far. IsShown t p to place) (λ far. IsDoneIfDelivered t p to place) a (λ far there. shown_keeps t p to place a)) is

at_most_3 : (n : ℕ) → n ≤ 1 → n ≤ 3
at_most_3 n small = omega (arith, small)

pub show_is_small : (t : Topology) (p : Plan) (from to : ℕ) (a : Answer) → IsShowAnswer from to t p a → a.status ≤ 3
show_is_small t p from to a is =
    after_small (known_place t from) (λ place. After (known_place t to) (λ far. IsShown t p to place)) a
    (λ place. after_small (known_place t to) (λ far. IsShown t p to place) a (λ far shown. at_most_3 a.status (is_small t p to place a shown))) is

pub show_exists : (t : Topology) (p : Plan) (from to : ℕ) → HasRightAnswer (IsShowAnswer from to t p)
show_exists t p from to =
    after_exists (known_place t from) (λ place. After (known_place t to) (λ far. IsShown t p to place))
    (λ place known. after_exists (known_place t to) (λ far. IsShown t p to place)
    (λ far there. (shown_answer t place.switch.0 to (shown_text t p place to) (route t p.tables place.switch.0 to).end, refl)))
