-- What a request says that matters here.
use Rattle.std.specs.Prelude.{ℕ, List, Bool, Option, is_some, option_map, codes}
use Rattle.http_header.specs.HeaderMap.{get}
use Rattle.http_uri.specs.Uri.{uri_authority, uri_path, uri_query}
use Rattle.http.specs.declared.request.Request.{Request}
use Rattle.http.specs.Request.{body_of, head_of}

pub record PartsState : Type 0 where
  pub method : List ℕ
  pub host : Option (List ℕ)
  pub is_absolute : Bool
  pub path : List ℕ
  pub query : Option (List ℕ)
  pub origin : Option (List ℕ)
  pub key : Option (List ℕ)
  pub body : List ℕ

-- the first value of a field, if there is one
abbrev pub field_of : Request (List ℕ) → List ℕ → Option (List ℕ)
field_of r name = option_map (λ v. v.bytes) (get (head_of r).headers name)

-- its method, the first values of its `Host`, its `Origin` and its `Authorization`, whether its target names a host
-- itself, its target's path and query, and its body
abbrev pub parts_of : Request (List ℕ) → PartsState
parts_of r =
    record {
      method = (head_of r).method;
      host = field_of r (codes "host");
      is_absolute = is_some (uri_authority (head_of r).uri);
      path = uri_path (head_of r).uri;
      query = uri_query (head_of r).uri;
      origin = field_of r (codes "origin");
      key = field_of r (codes "authorization");
      body = body_of r;
    }
