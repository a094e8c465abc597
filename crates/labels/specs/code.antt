pub mod LabelTable
