-- No promise: where a marker stands, as the program holds it.
use Rattle.gt_markers.specs.Sites.{Site as Where, at_field, at_structure, at_root, at_cache}
use Rattle.gt_markers.specs.declared.sites.Site.{Site}
use Rattle.gt_markers.specs.declared.sites.Site.TheVariants.{Field, Structure, Root, Cache}

abbrev pub site_of : Site → Where
site_of (Field in_union last t) = at_field in_union last t.now
site_of (Structure is_union) = at_structure is_union
site_of (Root t) = at_root t.now
site_of Cache = at_cache
