-- What a request asks for, and what it is answered.
use Rattle.std.specs.Prelude.{◌≡◌, ◌==◌, ℕ, List, [], ◌∷◌, ◌++◌, Bool, false, ◌||◌, ◌&&◌, codes, bytes_eq, drop}
use Rattle.std.specs.Prelude.{length, nat_le, nat_lt, Option}
use Rattle.std.specs.Prelude.{Some, None, is_some, map, option_map, if◌then◌else◌}
use Rattle.std.specs.Option.{option_map_or}
use Rattle.std.specs.List.{list_any, starts_with}
use Rattle.http.specs.declared.request.Request.{Request}
use Rattle.http_server.specs.Response.{fields_of}
use Rattle.http_server.specs.declared.response.Response.{Response}
use Rattle.smi_tree.specs.Hierarchy.{Hierarchy}
use Rattle.smi_tree.specs.Number.{number_within}
use Rattle.smi_view.specs.Pictured.{Pictured}
use Rattle.smi_history.specs.History.{HistoryState, all_noted, looked_at}
use Rattle.smi_history.specs.declared.look_time.LookTime.{LookTime}
use Rattle.smi_web.specs.OrderNotes.{page_notes}
use Rattle.smi_history.specs.Query.{history_text, query_in}
use Rattle.smi_web.specs.ChangesJson.{changes_since}
use Rattle.smi_web.specs.declared.routing.Route.{Route}
use Rattle.smi_web.specs.declared.routing.Route.TheVariants as route_to
use Rattle.smi_web.specs.declared.snapshot.Snapshot.{Snapshot}
use Rattle.smi_web.specs.declared.order_relay.Admission.{Admission}
use Rattle.smi_web.specs.declared.order_relay.Admission.TheVariants as admission
use Rattle.smi_web.specs.OrderRelay.{given, admission_of}
use Rattle.smi_web.specs.Acknowledgements.{acknowledged, is_acknowledgement}
use Rattle.smi_web.specs.Snapshot.{with_orders}
use Rattle.smi_web.specs.declared.page_orders.PageOrders.{PageOrders}
use Rattle.smi_web.specs.declared.service.WebService.{WebService}
use Rattle.smi_web.specs.Parts.{PartsState, parts_of}

abbrev pub is_text : Option (List ℕ) → List ℕ → Bool
is_text (Some text) word = bytes_eq text word
is_text None word = false

-- the host is one of those that the service answers to
abbrev pub is_ours : List (List ℕ) → Option (List ℕ) → Bool
is_ours hosts (Some host) = list_any (λ ours. bytes_eq ours host) hosts
is_ours hosts None = false

abbrev pub reads_only : List ℕ → Bool
reads_only method = bytes_eq method (codes "GET") || bytes_eq method (codes "HEAD")

-- what a request has after the question mark of its target
abbrev pub query_text : Option (List ℕ) → List ℕ
query_text None = []
query_text (Some query) = query

-- the history is told, if the query is one
abbrev pub history_route : Option (List ℕ) → Route
history_route query = option_map_or (λ q. route_to.History) (query_in (query_text query)) route_to.NoQuery

abbrev pub most_time : ℕ
most_time = 999_999_999_999

-- the time that a query names as since=TIME
abbrev pub time_in : List ℕ → Option ℕ
time_in query =
    if starts_with (λ a b. a == b) query (codes "since=")
    then number_within 0 most_time (drop (length (codes "since=")) query)
    else None

-- who has the newest picture is told nothing, who has one of the two seconds before it what has changed, and anybody
-- else all
abbrev pub route_since : ℕ → ℕ → Route
route_since time now =
    if time == now then route_to.Unchanged
    else (if nat_le (changes_since now) time && nat_lt time now then route_to.Changes else route_to.Picture)

-- the newest picture is named by the query of its version, or by its time
abbrev pub picture_route : Option (List ℕ) → List ℕ → ℕ → Route
picture_route query version now =
    if is_text query version then route_to.Unchanged
    else option_map_or (λ time. route_since time now) (time_in (query_text query)) route_to.Picture

-- what is at a place
abbrev pub place_route : List ℕ → Option (List ℕ) → List ℕ → ℕ → Bool → Route
place_route path query version now has_orders =
    if bytes_eq path (codes "/") then route_to.Page
    else (if bytes_eq path (codes "/api/tree") then route_to.Tree
    else (if bytes_eq path (codes "/api/picture") then picture_route query version now
    else (if bytes_eq path (codes "/api/history") then history_route query
    else (if bytes_eq path (codes "/metrics") then route_to.Metrics
    else (if bytes_eq path (codes "/healthz") then route_to.Health
    else (if has_orders && bytes_eq path (codes "/api/orders") then route_to.Orders else route_to.NotFound))))))

-- the request comes from a page of this very host
abbrev pub is_own_page : Option (List ℕ) → Option (List ℕ) → Bool
is_own_page (Some host) (Some origin) = starts_with (λ a b. a == b) origin (codes "http://")
    && bytes_eq (drop (length (codes "http://")) origin) host
is_own_page (Some host) None = false
is_own_page None origin = false

-- the request comes from the page as a proxy serves it, under this origin, if one does
abbrev pub is_proxied_page : Option (List ℕ) → Option (List ℕ) → Bool
is_proxied_page (Some ours) origin = is_text origin ours
is_proxied_page None origin = false

-- it is the page that was served with this key, at its address or under the origin of the proxy before it
abbrev pub is_trusted : List ℕ → Option (List ℕ) → PartsState → Bool
is_trusted key proxy q = is_text q.key key && (is_own_page q.host q.origin || is_proxied_page proxy q.origin)

abbrev pub route_by : Admission → Route
route_by admission.Accepted = route_to.Given
route_by admission.NoOrder = route_to.NoOrder
route_by admission.ConsoleDown = route_to.ConsoleDown
route_by admission.QueueFull = route_to.QueueFull

abbrev pub is_at_orders : PartsState → Bool
is_at_orders q = bytes_eq q.path (codes "/api/orders")

abbrev pub is_at_alarms : PartsState → Bool
is_at_alarms q = bytes_eq q.path (codes "/api/alarms")

-- a request would change something that a page may change
abbrev pub is_posted : PartsState → Bool
is_posted q = bytes_eq q.method (codes "POST") && (is_at_orders q || is_at_alarms q)

-- of an order what the relay says of it counts, and of an acknowledgement whether it is one
abbrev pub page_route : PageOrders → PartsState → Route
page_route o q =
    if is_at_orders q then route_by (admission_of o.tree o.relay q.body)
    else (if is_acknowledgement o.tree q.body then route_to.Acknowledged else route_to.NoAlarm)

-- an order is given at one place, and an alarm acknowledged at another, by the page alone
abbrev pub posted_route : PageOrders → PartsState → Route
posted_route o q =
    if is_posted q
    then (if is_trusted o.key o.origin q then page_route o q else route_to.ForeignOrigin)
    else route_to.Change

abbrev pub change_route : Option PageOrders → PartsState → Route
change_route (Some o) q = posted_route o q
change_route None q = route_to.Change

-- first of all the host, then the method, then the place
abbrev pub route_request : List (List ℕ) → List ℕ → ℕ → Option PageOrders → PartsState → Route
route_request hosts version now orders q =
    if q.is_absolute then route_to.WrongHost
    else (if is_ours hosts q.host
    then (if reads_only q.method
    then place_route q.path q.query version now (is_some orders)
    else change_route orders q)
    else route_to.WrongHost)

-- what a request asks of a service
abbrev pub route_of : WebService → Request (List ℕ) → Route
route_of w request =
    route_request (map (λ h. h.items) w.hosts.items) w.snapshot.version w.snapshot.now w.orders (parts_of request)

abbrev pub status_of : Route → ℕ
status_of route_to.Page = 200
status_of route_to.Tree = 200
status_of route_to.Picture = 200
status_of route_to.Changes = 200
status_of route_to.Metrics = 200
status_of route_to.Health = 200
status_of route_to.Unchanged = 204
status_of route_to.Orders = 200
status_of route_to.History = 200
status_of route_to.NoQuery = 400
status_of route_to.NotFound = 404
status_of route_to.Change = 405
status_of route_to.WrongHost = 421
status_of route_to.Given = 202
status_of route_to.Acknowledged = 200
status_of route_to.NoAlarm = 400
status_of route_to.ForeignOrigin = 403
status_of route_to.NoOrder = 400
status_of route_to.ConsoleDown = 503
status_of route_to.QueueFull = 429

-- the entries of the history that a query asks for
abbrev pub history_told : HistoryState → Option (List ℕ) → List ℕ
history_told h query = option_map_or (history_text h) (query_in (query_text query)) []

abbrev pub told_of : WebService → Route → Option (List ℕ) → List ℕ
told_of w route_to.History query = history_told w.history query
told_of w _ query = []

-- the texts of the snapshot, what is told of the history, and beside them some that tell nothing of the detector
abbrev pub body_of : Snapshot → List ℕ → Route → List ℕ
body_of snapshot told route_to.Page = snapshot.page
body_of snapshot told route_to.Tree = snapshot.tree
body_of snapshot told route_to.Picture = snapshot.picture
body_of snapshot told route_to.Changes = snapshot.changes
body_of snapshot told route_to.Metrics = snapshot.metrics
body_of snapshot told route_to.Health = codes "ok"
body_of snapshot told route_to.Unchanged = []
body_of snapshot told route_to.Orders = snapshot.orders
body_of snapshot told route_to.History = told
body_of snapshot told route_to.NoQuery = codes "this is no query: object=NAME&from=SECOND&to=SECOND&after=NUMBER"
body_of snapshot told route_to.NotFound = codes "there is no such page"
body_of snapshot told route_to.Change = codes "this screen only shows"
body_of snapshot told route_to.WrongHost = codes "this is another host"
body_of snapshot told route_to.Given = codes "the order is on its way"
body_of snapshot told route_to.Acknowledged = codes "acknowledged"
body_of snapshot told route_to.NoAlarm = codes "this is no alarm of the tree and an operator of it"
body_of snapshot told route_to.ForeignOrigin = codes "orders are given from the page alone"
body_of snapshot told route_to.NoOrder = codes "this is no order of an operator of the tree"
body_of snapshot told route_to.ConsoleDown = codes "there is no connection with the console"
body_of snapshot told route_to.QueueFull = codes "too many orders wait"

-- what a page may do: run what is in it, and ask its own host
abbrev pub policy : List ℕ
policy = codes "default-src 'none'; script-src 'unsafe-inline'; style-src 'unsafe-inline'; connect-src 'self'; "
    ++ codes "img-src data:; base-uri 'none'; form-action 'none'; frame-ancestors 'none'"

-- what every answer carries: nobody keeps it, takes it for another kind of text or shows it in a frame, no page from
-- elsewhere loads it or has its window at hand, and a page runs what is in it and asks its own host
abbrev pub page_headers : List (List ℕ × List ℕ)
page_headers = (codes "cache-control", codes "no-store") ∷ (codes "x-content-type-options", codes "nosniff")
    ∷ (codes "x-frame-options", codes "DENY") ∷ (codes "referrer-policy", codes "no-referrer")
    ∷ (codes "content-security-policy", policy) ∷ []

abbrev pub origin_headers : List (List ℕ × List ℕ)
origin_headers = (codes "cross-origin-opener-policy", codes "same-origin")
    ∷ (codes "cross-origin-resource-policy", codes "same-origin") ∷ []

abbrev pub security_headers : List (List ℕ × List ℕ)
security_headers = page_headers ++ origin_headers

abbrev pub of_type : List ℕ → List (List ℕ × List ℕ)
of_type kind = (codes "content-type", kind) ∷ []

abbrev pub html : List (List ℕ × List ℕ)
html = of_type (codes "text/html; charset=utf-8")

abbrev pub json : List (List ℕ × List ℕ)
json = of_type (codes "application/json")

abbrev pub plain : List (List ℕ × List ℕ)
plain = of_type (codes "text/plain; charset=utf-8")

-- and its own: of what type its text is, and what may be asked
abbrev pub own_headers : Route → List (List ℕ × List ℕ)
own_headers route_to.Page = html
own_headers route_to.Tree = json
own_headers route_to.Picture = json
own_headers route_to.Changes = json
own_headers route_to.Metrics = of_type (codes "text/plain; version=0.0.4; charset=utf-8")
own_headers route_to.Health = plain
own_headers route_to.Unchanged = []
own_headers route_to.Orders = json
own_headers route_to.History = of_type (codes "application/x-ndjson")
own_headers route_to.NoQuery = plain
own_headers route_to.NotFound = plain
own_headers route_to.Change = (codes "allow", codes "GET, HEAD") ∷ plain
own_headers route_to.WrongHost = plain
own_headers route_to.Given = plain
own_headers route_to.Acknowledged = plain
own_headers route_to.NoAlarm = plain
own_headers route_to.ForeignOrigin = plain
own_headers route_to.NoOrder = plain
own_headers route_to.ConsoleDown = plain
own_headers route_to.QueueFull = plain

-- headers that are added one after the other
abbrev pub with_headers : List (List ℕ × List ℕ) → List (List ℕ × List ℕ) → List (List ℕ × List ℕ)
with_headers done [] = done
with_headers done (one ∷ more) = with_headers (done ++ one ∷ []) more

-- a response is the one to what was asked
pub record Answers (snapshot : Snapshot) (told : List ℕ) (what : Route) (r : Response) : Type 0 where
  pub status : r.status ≡ status_of what
  pub headers : fields_of r ≡ security_headers ++ own_headers what
  pub body : r.body.items ≡ body_of snapshot told what

-- the order is given
abbrev pub ordered : PageOrders → List ℕ → PageOrders
ordered o line = record o { relay = given o.relay line o.time }

-- the alarm is acknowledged
abbrev pub noted_by : PageOrders → List ℕ → PageOrders
noted_by o line = record o { acknowledged = acknowledged o.acknowledged line o.time }

-- what a request leaves of the service: an order that is given is given to the relay, once, an alarm that is
-- acknowledged is noted, and nothing else changes anything
abbrev pub left_by : Route → WebService → List ℕ → WebService
left_by route_to.Given w line = record w { orders = option_map (λ o. ordered o line) w.orders }
left_by route_to.Acknowledged w line = record w { orders = option_map (λ o. noted_by o line) w.orders }
left_by _ w line = w

-- what became of the orders is told again, if orders may be given
abbrev pub orders_told : WebService → WebService
orders_told w = record w {
  snapshot = option_map_or (λ o. with_orders w.snapshot o.relay o.acknowledged o.time) w.orders w.snapshot;
}

-- the picture is looked at, and what is new in it and among the orders is noted
abbrev pub looked_by : WebService → Hierarchy → Pictured → LookTime → WebService
looked_by w h p m = record w {
  history = all_noted (looked_at w.history h p m) (page_notes w.orders w.history.looked m);
}
