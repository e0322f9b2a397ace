pub mod QueryMeanings
pub mod ChangeMeanings
pub mod TextsAlone
