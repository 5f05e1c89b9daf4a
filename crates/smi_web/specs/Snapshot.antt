-- The texts of a snapshot.
use Rattle.std.specs.Prelude.{ℕ, ◌++◌, List, [], codes}
use Rattle.std.specs.Fmt.{decimal}
use Rattle.smi_tree.specs.Hierarchy.{Hierarchy}
use Rattle.smi_view.specs.Pictured.{Pictured}
use Rattle.smi_web.specs.Metrics.{metrics_text}
use Rattle.smi_web.specs.OrderRelay.{OrderRelayState}
use Rattle.smi_web.specs.declared.metrics.ScreenFigures.{ScreenFigures}
use Rattle.smi_web.specs.declared.acknowledgements.Acknowledgement.{Acknowledgement}
use Rattle.smi_web.specs.OrdersJson.{orders_text}
use Rattle.smi_web.specs.ChangesJson.{changes_text}
use Rattle.smi_web.specs.PictureJson.{picture_text}
use Rattle.smi_web.specs.TreeJson.{tree_text}
use Rattle.smi_web.specs.declared.snapshot.Snapshot.{Snapshot}

-- the query of one who has the picture of this number
abbrev pub version_of : ℕ → List ℕ
version_of number = codes "after=" ++ decimal number

-- a page, a tree, and a picture with the figures of its screen
abbrev pub snapshot_of : List ℕ → Hierarchy → Pictured → ScreenFigures → Snapshot
snapshot_of page h p f = record {
  version = version_of f.number;
  page = page;
  tree = tree_text h;
  picture = picture_text h p f.number f.now;
  now = f.now;
  changes = changes_text h p f.number f.now;
  metrics = metrics_text h p f;
  orders = [];
}

-- a further picture, on the same page
abbrev pub renewed : Snapshot → Hierarchy → Pictured → ScreenFigures → Snapshot
renewed snapshot h p f = record snapshot {
  version = version_of f.number;
  picture = picture_text h p f.number f.now;
  now = f.now;
  changes = changes_text h p f.number f.now;
  metrics = metrics_text h p f;
}

-- nothing was counted yet
abbrev pub no_figures : ScreenFigures
no_figures = record { number = 0; now = 0; foreign = 0 }

-- what became of the orders that were given from the page, and which alarms were acknowledged, looked at at this time
abbrev pub with_orders : Snapshot → OrderRelayState → List Acknowledgement → ℕ → Snapshot
with_orders snapshot r acknowledged now = record snapshot { orders = orders_text r acknowledged now }
